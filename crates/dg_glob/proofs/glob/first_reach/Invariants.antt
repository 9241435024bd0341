use Rattle.std.proofs.Common.{length}
use Rattle.dg_glob.proofs.SpanLemmas.{IsScan}
use Rattle.dg_glob.proofs.glob.first_reach.Given as goal

abbrev pub invariant-loop-left : goal.invariant-loop-left
invariant-loop-left l = IsScan l.fn.whole l.fn.body l.fn.text l.rest

abbrev pub decreases-loop-left : goal.decreases-loop-left
decreases-loop-left l = length l.rest
