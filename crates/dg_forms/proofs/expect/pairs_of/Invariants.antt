use Rattle.std.proofs.Common.{◌≡◌, length}
use Rattle.dg_language.specs.ExpectWords.{pairs_of}
use Rattle.dg_forms.proofs.PairLemmas.{behind_pairs}
use Rattle.dg_forms.proofs.expect.pairs_of.Given as goal

abbrev pub invariant-pairs : goal.invariant-pairs
invariant-pairs l = behind_pairs l.pairs (pairs_of l.left) ≡ pairs_of l.fn.words

abbrev pub decreases-pairs : goal.decreases-pairs
decreases-pairs l = length l.left
