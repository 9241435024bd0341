-- Worked rows of the definitions.
use Rattle.std.proofs.Common.{◌≡◌, ℕ, List, [], ◌∷◌, pos, negsuc, Some, None, Ok, Err, codes, refl, false}
use Rattle.dg_expr.specs.declared.fault.Side.TheVariants.{Left}
use Rattle.dg_expr.specs.declared.fault.ExprFault.TheVariants.{NotWhole, TooLarge, NegativeShift}
use Rattle.dg_expr.specs.declared.operator.Infix.TheVariants as between
use Rattle.dg_expr.specs.Number.{number_of}
use Rattle.dg_expr.specs.Truth.{truth_of, word_truth}
use Rattle.dg_words.specs.Piece.{Text}
use Rattle.dg_expr.specs.Reading.{tree_in, read, step, reduce, finish}
use Rattle.dg_expr.specs.Token.{tokens_behind, lexeme_at, kind_of, single_sign}
use Rattle.dg_expr.specs.Tree.{Tree, Operand, Two, Choice}
use Rattle.dg_expr.specs.Operator.{value_of, quotient, remainder}

number-hexadecimal : number_of (codes " -0x1F ") ≡ Some (negsuc 30)
unfolding number_of
number-hexadecimal = refl

number-eight : number_of (codes "08") ≡ None
unfolding number_of
number-eight = refl

number-least : number_of (codes "-9223372036854775808") ≡ Some (negsuc 9223372036854775807)
unfolding number_of
number-least = refl

number-past : number_of (codes "9223372036854775808") ≡ None
unfolding number_of
number-past = refl

truth-cut : truth_of (codes "Of") ≡ Some false
unfolding truth_of word_truth number_of
truth-cut = refl

truth-of_two : truth_of (codes "o") ≡ None
unfolding truth_of word_truth number_of
truth-of_two = refl

quotient-down : quotient (negsuc 6) (pos 2) ≡ negsuc 3
quotient-down = refl

remainder-sign : remainder (pos 7) (negsuc 1) ≡ negsuc 0
remainder-sign = refl

octal-equal : value_of between.Equal (codes "010") (codes "8") ≡ Ok (codes "1")
unfolding value_of number_of
octal-equal = refl

sum-past : value_of between.Plus (codes "9223372036854775807") (codes "1") ≡ Err TooLarge
unfolding value_of number_of
sum-past = refl

fraction : value_of between.Plus (codes "1.5") (codes "1") ≡ Err (NotWhole Left)
unfolding value_of number_of
fraction = refl

shift-negative : value_of between.ShiftLeft (codes "1") (codes "-1") ≡ Err NegativeShift
unfolding value_of number_of
shift-negative = refl

one_text : List ℕ → Tree
one_text t = Operand (Text t ∷ [])

minus-left : tree_in (codes "1 -2-3") ≡ Some (Two between.Minus (Two between.Minus (one_text (codes "1")) (one_text (codes "2"))) (one_text (codes "3")))
unfolding tree_in read step reduce finish tokens_behind lexeme_at kind_of single_sign one_text
minus-left = refl

choice-right : tree_in (codes "1?2:yes?(3):n") ≡ Some (Choice (one_text (codes "1")) (one_text (codes "2")) (Choice (one_text (codes "yes")) (one_text (codes "3")) (one_text (codes "n"))))
unfolding tree_in read step reduce finish tokens_behind lexeme_at kind_of single_sign word_truth one_text
choice-right = refl

in-loose : tree_in (codes "1 in 2==3") ≡ Some (Two between.In (one_text (codes "1")) (Two between.Equal (one_text (codes "2")) (one_text (codes "3"))))
unfolding tree_in read step reduce finish tokens_behind lexeme_at kind_of single_sign one_text
in-loose = refl

behind-none : tree_in (codes "1 +") ≡ None
unfolding tree_in read step reduce finish tokens_behind lexeme_at kind_of single_sign
behind-none = refl
