-- No operator's fault is a want of memory.
use Rattle.std.proofs.Common.{◌≡◌, ℕ, zero, suc, ℤ, pos, negsuc, List, Bool, true, false, Option, None, Some, Ok, Err}
use Rattle.std.specs.Prelude.{◌^◌, neg_ℤ, ◌+ℤ◌, ◌-ℤ◌, ◌*ℤ◌, not, Result, if◌then◌else◌}
use Rattle.std.specs.Int.{w64, int_bit_and, int_bit_or, int_bit_xor, int_bit_not, int_shr}
use Rattle.dg_lists.specs.declared.fault.WordFault.{WordFault}
use Rattle.dg_lists.specs.Elements.{elements_of}
use Rattle.dg_expr.specs.declared.fault.ExprFault.TheVariants.{Memory, TooLarge}
use Rattle.dg_expr.specs.declared.operator.Infix.{Infix}
use Rattle.dg_expr.specs.declared.operator.Infix.TheVariants as between
use Rattle.dg_expr.specs.declared.operator.Prefix.{Prefix}
use Rattle.dg_expr.specs.declared.operator.Prefix.TheVariants as before
use Rattle.dg_expr.specs.Number.{number_of}
use Rattle.dg_expr.specs.Operator.{Value, fits, number_value, divided, shifted_left, shifted_right, both_whole, found_in, and_then, or_else, of_whole, denied, quotient, remainder, value_of, value_of_one}
use Rattle.dg_expr.specs.Truth.{truth_of}

abbrev Free : Value → Type 0
Free v = v ≡ Err Memory → ⊥

chosen : (b : Bool) (t : List ℕ) → Free (if b then Ok t else Err TooLarge)
chosen true t h = absurd cc
chosen false t h = absurd cc

number : (z : ℤ) → Free (number_value z)
number z = chosen (fits z) _

quotients : (f : ℤ → ℤ → ℤ) (x y : ℤ) → Free (divided f x y)
quotients f x (pos zero) h = absurd cc
quotients f x (pos (suc d)) h = number (f x (pos (suc d))) h
quotients f x (negsuc d) h = number (f x (negsuc d)) h

left : (x y : ℤ) → Free (shifted_left x y)
left x (pos n) h = number (x *ℤ pos (2 ^ n)) h
left x (negsuc n) h = absurd cc

right : (x y : ℤ) → Free (shifted_right x y)
right x (pos n) h = number (int_shr x n) h
right x (negsuc n) h = absurd cc

wholes : (f : ℤ → ℤ → Value) → ((x y : ℤ) → Free (f x y)) → (a b : Option ℤ) → Free (both_whole a b f)
wholes f free None b h = absurd cc
wholes f free (Some x) None h = absurd cc
wholes f free (Some x) (Some y) h = free x y h

found : (r : Result (List (List ℕ)) WordFault) (a : List ℕ) (f : Bool → Bool) → Free (found_in r a f)
found (Ok elements) a f h = absurd cc
found (Err fault) a f h = absurd cc

both : (a b : Option Bool) → Free (and_then a b)
both None b h = absurd cc
both (Some false) b h = absurd cc
both (Some true) None h = absurd cc
both (Some true) (Some t) h = absurd cc

either : (a b : Option Bool) → Free (or_else a b)
either None b h = absurd cc
either (Some true) b h = absurd cc
either (Some false) None h = absurd cc
either (Some false) (Some t) h = absurd cc

whole : (f : ℤ → ℤ) (a : Option ℤ) → Free (of_whole f a)
whole f None h = absurd cc
whole f (Some x) h = number (f x) h

denial : (a : Option Bool) → Free (denied a)
denial None h = absurd cc
denial (Some t) h = absurd cc

pub between_free : (op : Infix) (a b : List ℕ) → Free (value_of op a b)
unfolding value_of
between_free between.Times a b = wholes (λ x y. number_value (x *ℤ y)) (λ x y. number (x *ℤ y)) (number_of a) (number_of b)
between_free between.Over a b = wholes (divided quotient) (quotients quotient) (number_of a) (number_of b)
between_free between.Remainder a b = wholes (divided remainder) (quotients remainder) (number_of a) (number_of b)
between_free between.Plus a b = wholes (λ x y. number_value (x +ℤ y)) (λ x y. number (x +ℤ y)) (number_of a) (number_of b)
between_free between.Minus a b = wholes (λ x y. number_value (x -ℤ y)) (λ x y. number (x -ℤ y)) (number_of a) (number_of b)
between_free between.ShiftLeft a b = wholes shifted_left left (number_of a) (number_of b)
between_free between.ShiftRight a b = wholes shifted_right right (number_of a) (number_of b)
between_free between.Less a b = λ h. absurd cc
between_free between.Greater a b = λ h. absurd cc
between_free between.LessOrEqual a b = λ h. absurd cc
between_free between.GreaterOrEqual a b = λ h. absurd cc
between_free between.Equal a b = λ h. absurd cc
between_free between.NotEqual a b = λ h. absurd cc
between_free between.SameText a b = λ h. absurd cc
between_free between.OtherText a b = λ h. absurd cc
between_free between.In a b = found (elements_of b) a (λ t. t)
between_free between.NotIn a b = found (elements_of b) a not
between_free between.BitAnd a b = wholes (λ x y. number_value (int_bit_and w64 x y)) (λ x y. number (int_bit_and w64 x y)) (number_of a) (number_of b)
between_free between.BitXor a b = wholes (λ x y. number_value (int_bit_xor w64 x y)) (λ x y. number (int_bit_xor w64 x y)) (number_of a) (number_of b)
between_free between.BitOr a b = wholes (λ x y. number_value (int_bit_or w64 x y)) (λ x y. number (int_bit_or w64 x y)) (number_of a) (number_of b)
between_free between.And a b = both (truth_of a) (truth_of b)
between_free between.Or a b = either (truth_of a) (truth_of b)

pub before_free : (op : Prefix) (a : List ℕ) → Free (value_of_one op a)
unfolding value_of_one
before_free before.Negate a = whole neg_ℤ (number_of a)
before_free before.Keep a = whole (λ x. x) (number_of a)
before_free before.Complement a = whole (int_bit_not w64) (number_of a)
before_free before.Not a = denial (truth_of a)
