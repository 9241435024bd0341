use Rattle.std.proofs.Common.{length}
use Rattle.dg_glob.specs.Search.{IsRun}
use Rattle.dg_glob.proofs.search.pass_items.Given as goal

abbrev pub invariant-loop-first : goal.invariant-loop-first
invariant-loop-first l = IsRun l.fn.pattern l.fn.text l.steady l.pattern l.text

abbrev pub decreases-loop-first : goal.decreases-loop-first
decreases-loop-first l = length l.pattern
