-- The values of operators.
use Rattle.std.specs.Prelude.{ℕ, zero, suc, ◌^◌, ℤ, pos, negsuc, neg_ℤ, ◌+ℤ◌, ◌-ℤ◌, ◌*ℤ◌, List, Bool, true, false, not, Option, None, Some, Result, Ok, Err, nat_lt, if◌then◌else◌}
use Rattle.std.specs.Int.{w64, int_bit_and, int_bit_or, int_bit_xor, int_bit_not, int_div_euclid, int_rem_euclid, int_shr}
use Rattle.std.specs.List.{list_any}
use Rattle.std.specs.declared.cmp.Ordering.{Ordering}
use Rattle.std.specs.Ordering.{int_cmp, nat_cmp, is_eq, is_lt, is_gt}
use Rattle.std.specs.Cmp.Lexicographic.{slice_cmp}
use Rattle.dg_lists.specs.declared.fault.WordFault.{WordFault}
use Rattle.dg_lists.specs.Elements.{elements_of}
use Rattle.dg_expr.specs.declared.fault.Side.TheVariants.{Left, Right}
use Rattle.dg_expr.specs.declared.fault.ExprFault.{ExprFault}
use Rattle.dg_expr.specs.declared.fault.ExprFault.TheVariants.{NotWhole, DivideByZero, TooLarge, NotTruth, NegativeShift, BadList}
use Rattle.dg_expr.specs.declared.operator.Infix.{Infix}
use Rattle.dg_expr.specs.declared.operator.Infix.TheVariants as between
use Rattle.dg_expr.specs.declared.operator.Prefix.{Prefix}
use Rattle.dg_expr.specs.declared.operator.Prefix.TheVariants as before
use Rattle.dg_expr.specs.Number.{number_of, decimal_text}
use Rattle.dg_expr.specs.Truth.{truth_of, truth_text}
use Rattle.dg_bytes.specs.Same.{same_bytes}

-- a text, or one fault
abbrev pub Value : Type 0
Value = Result (List ℕ) ExprFault

-- the text of a number that 64 bits hold
abbrev pub fits : ℤ → Bool
fits (pos n) = nat_lt n (2 ^ 63)
fits (negsuc n) = nat_lt n (2 ^ 63)

abbrev pub number_value : ℤ → Value
number_value z = if fits z then Ok (decimal_text z) else Err TooLarge

abbrev pub truth_value : Bool → Value
truth_value holds = Ok (truth_text holds)

-- division that rounds down, and what it leaves, which has the divisor's sign: the divisor isn't 0
abbrev pub quotient : ℤ → ℤ → ℤ
quotient x (pos d) = int_div_euclid x (pos d)
quotient x (negsuc d) = int_div_euclid (neg_ℤ x) (pos (suc d))

abbrev pub remainder : ℤ → ℤ → ℤ
remainder x (pos d) = int_rem_euclid x (pos d)
remainder x (negsuc d) = neg_ℤ (int_rem_euclid (neg_ℤ x) (pos (suc d)))

abbrev pub divided : (ℤ → ℤ → ℤ) → ℤ → ℤ → Value
divided f x (pos zero) = Err DivideByZero
divided f x (pos (suc d)) = number_value (f x (pos (suc d)))
divided f x (negsuc d) = number_value (f x (negsuc d))

-- a shift by a number that isn't negative
abbrev pub shifted_left : ℤ → ℤ → Value
shifted_left x (pos n) = number_value (x *ℤ pos (2 ^ n))
shifted_left x (negsuc n) = Err NegativeShift

abbrev pub shifted_right : ℤ → ℤ → Value
shifted_right x (pos n) = number_value (int_shr x n)
shifted_right x (negsuc n) = Err NegativeShift

-- of two operands that aren't whole the left is named
abbrev pub right_whole : Option ℤ → (ℤ → Value) → Value
right_whole None f = Err (NotWhole Right)
right_whole (Some y) f = f y

abbrev pub both_whole : Option ℤ → Option ℤ → (ℤ → ℤ → Value) → Value
both_whole None y f = Err (NotWhole Left)
both_whole (Some x) y f = right_whole y (f x)

abbrev pub of_wholes : (ℤ → ℤ → Value) → List ℕ → List ℕ → Value
of_wholes f a b = both_whole (number_of a) (number_of b) f

-- numbers where both are, else bytes in order
abbrev pub order_by : Option ℤ → Option ℤ → Ordering → Ordering
order_by (Some x) (Some y) o = int_cmp x y
order_by (Some x) None o = o
order_by None y o = o

abbrev pub order_of : List ℕ → List ℕ → Ordering
order_of a b = order_by (number_of a) (number_of b) (slice_cmp nat_cmp a b)

-- the same text
-- whether a list has an equal element
abbrev pub found_in : Result (List (List ℕ)) WordFault → List ℕ → (Bool → Bool) → Value
found_in (Ok elements) a f = truth_value (f (list_any (λ x. same_bytes x a) elements))
found_in (Err fault) a f = Err (BadList fault)

-- the truth of a text
abbrev pub truly : Option Bool → Value
truly None = Err NotTruth
truly (Some t) = truth_value t

-- the right is looked at where the left doesn't decide
abbrev pub and_then : Option Bool → Option Bool → Value
and_then None b = Err NotTruth
and_then (Some false) b = truth_value false
and_then (Some true) b = truly b

abbrev pub or_else : Option Bool → Option Bool → Value
or_else None b = Err NotTruth
or_else (Some true) b = truth_value true
or_else (Some false) b = truly b

-- The value of an operator between two texts.
unfoldable pub value_of : Infix → List ℕ → List ℕ → Value
value_of between.Times a b = of_wholes (λ x y. number_value (x *ℤ y)) a b
value_of between.Over a b = of_wholes (divided quotient) a b
value_of between.Remainder a b = of_wholes (divided remainder) a b
value_of between.Plus a b = of_wholes (λ x y. number_value (x +ℤ y)) a b
value_of between.Minus a b = of_wholes (λ x y. number_value (x -ℤ y)) a b
value_of between.ShiftLeft a b = of_wholes shifted_left a b
value_of between.ShiftRight a b = of_wholes shifted_right a b
value_of between.Less a b = truth_value (is_lt (order_of a b))
value_of between.Greater a b = truth_value (is_gt (order_of a b))
value_of between.LessOrEqual a b = truth_value (not (is_gt (order_of a b)))
value_of between.GreaterOrEqual a b = truth_value (not (is_lt (order_of a b)))
value_of between.Equal a b = truth_value (is_eq (order_of a b))
value_of between.NotEqual a b = truth_value (not (is_eq (order_of a b)))
value_of between.SameText a b = truth_value (same_bytes a b)
value_of between.OtherText a b = truth_value (not (same_bytes a b))
value_of between.In a b = found_in (elements_of b) a (λ t. t)
value_of between.NotIn a b = found_in (elements_of b) a not
value_of between.BitAnd a b = of_wholes (λ x y. number_value (int_bit_and w64 x y)) a b
value_of between.BitXor a b = of_wholes (λ x y. number_value (int_bit_xor w64 x y)) a b
value_of between.BitOr a b = of_wholes (λ x y. number_value (int_bit_or w64 x y)) a b
value_of between.And a b = and_then (truth_of a) (truth_of b)
value_of between.Or a b = or_else (truth_of a) (truth_of b)

abbrev pub of_whole : (ℤ → ℤ) → Option ℤ → Value
of_whole f None = Err (NotWhole Left)
of_whole f (Some x) = number_value (f x)

abbrev pub denied : Option Bool → Value
denied None = Err NotTruth
denied (Some t) = truth_value (not t)

-- The value of an operator before a text.
unfoldable pub value_of_one : Prefix → List ℕ → Value
value_of_one before.Negate a = of_whole neg_ℤ (number_of a)
value_of_one before.Keep a = of_whole (λ x. x) (number_of a)
value_of_one before.Complement a = of_whole (int_bit_not w64) (number_of a)
value_of_one before.Not a = denied (truth_of a)
