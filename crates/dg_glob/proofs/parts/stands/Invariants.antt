use Rattle.std.proofs.Common.{length}
use Rattle.dg_glob.proofs.ReadingLemmas.{IsWalk}
use Rattle.dg_glob.proofs.parts.stands.Given as goal

abbrev pub invariant-loop-pattern : goal.invariant-loop-pattern
invariant-loop-pattern l = IsWalk l.fn.pattern l.fn.text l.pattern l.text

abbrev pub decreases-loop-pattern : goal.decreases-loop-pattern
decreases-loop-pattern l = length l.pattern
