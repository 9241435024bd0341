use Rattle.std.proofs.Common.{◌≡◌, length}
use Rattle.std.specs.Option.{option_copied}
use Rattle.std.specs.Prelude.{None}
use Rattle.dg_language.specs.ExpectWords.{expect_words}
use Rattle.dg_forms.proofs.expect.expect_words.Given as goal

abbrev pub invariant-flags : goal.invariant-flags
invariant-flags l = expect_words (option_copied l.timeout) (option_copied l.id) l.left ≡ expect_words None None l.fn.words

abbrev pub decreases-flags : goal.decreases-flags
decreases-flags l = length l.left
