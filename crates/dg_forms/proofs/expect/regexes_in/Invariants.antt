use Rattle.std.proofs.Common.{◌≡◌, ◌++◌, length}
use Rattle.dg_language.specs.ExpectWords.{regexes_in}
use Rattle.dg_forms.proofs.expect.regexes_in.Given as goal

abbrev pub invariant-pairs : goal.invariant-pairs
invariant-pairs l = l.texts ++ regexes_in l.left ≡ regexes_in l.fn.pairs

abbrev pub decreases-pairs : goal.decreases-pairs
decreases-pairs l = length l.left
