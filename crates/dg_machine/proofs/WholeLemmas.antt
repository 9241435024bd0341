-- Expressions that come to whole numbers.
use Rattle.std.proofs.Common.{◌≡◌, ◌^◌, ◌<◌, ℤ, pos, ap}
use Rattle.std.specs.Prelude.{not, Some}
use Rattle.std.specs.Ordering.{int_eq}
use lib.Signed.{mag}
use Rattle.dg_expr.proofs.Decimals.{number_of-decimal}
use Rattle.dg_expr.specs.Number.{decimal_text}
use Rattle.dg_expr.specs.Truth.{truth_of, number_or_word, word_truth}
use Rattle.dg_language.specs.Expressions.{decimal_or, in_decimal}

-- the text of a number is written in decimal already
pub in_decimal-whole : (z : ℤ) → mag z < 2 ^ 63 → in_decimal (decimal_text z) ≡ decimal_text z
unfolding in_decimal
in_decimal-whole z h = ap (decimal_or (decimal_text z)) (number_of-decimal z h)

-- a number is true unless it is 0
pub truth_of_whole : (z : ℤ) → mag z < 2 ^ 63 → truth_of (decimal_text z) ≡ Some (not (int_eq z (pos 0)))
unfolding truth_of
truth_of_whole z h = ap (λ o. number_or_word o (word_truth (decimal_text z))) (number_of-decimal z h)
