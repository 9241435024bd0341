use Rattle.std.proofs.Common.{◌≡◌, ◌++◌, length}
use Rattle.dg_language.specs.ExpectWords.{patterns_in}
use Rattle.dg_machine.proofs.PatternLemmas.{Hold}
use Rattle.dg_machine.proofs.patterns.make_patterns.Given as goal

abbrev pub invariant-pairs : goal.invariant-pairs
invariant-pairs l = (l.patterns ++ patterns_in l.left ≡ patterns_in l.fn.pairs) × Hold l.fn.pairs l.left

abbrev pub decreases-pairs : goal.decreases-pairs
decreases-pairs l = length l.left
