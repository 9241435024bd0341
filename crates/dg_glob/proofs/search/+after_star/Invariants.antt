use Rattle.std.proofs.Common.{length, ◌+◌}
use Rattle.dg_glob.proofs.SearchLemmas.{IsSearch}
use Rattle.dg_glob.proofs.search.+after_star.Given as goal

abbrev pub decreases-after_star : goal.decreases-after_star
decreases-after_star l = length l.pattern.now

abbrev pub invariant-loop-rest : goal.invariant-loop-rest
invariant-loop-rest l = IsSearch l.fn.whole l.fn.pattern l.fn.text l.rest l.later l.best

abbrev pub decreases-loop-rest : goal.decreases-loop-rest
decreases-loop-rest l = length l.rest + length l.later
