-- Two operands that are whole, or not.
use Rattle.std.proofs.Common.{◌≡◌, ℤ, Option, Some, None, Err, refl}
use Rattle.dg_expr.specs.declared.fault.ExprFault.{ExprFault}
use Rattle.dg_expr.specs.Answers.{IsNotWhole}
use Rattle.dg_expr.specs.Operator.{Value, both_whole}

pub both_whole-some : (x y : Option ℤ) (m n : ℤ) (g : ℤ → ℤ → Value) → x ≡ Some m → y ≡ Some n → both_whole x y g ≡ g m n
both_whole-some x y m n g e h = rw (e, h) refl

pub both_whole-none : (x y : Option ℤ) (f : ExprFault) (g : ℤ → ℤ → Value) → IsNotWhole x y f → both_whole x y g ≡ Err f
both_whole-none None y f g e = rw e refl
both_whole-none (Some x) None f g e = rw e refl
both_whole-none (Some x) (Some y) f g e = absurd e

pub ruleset wholes = (both_whole-some, both_whole-none)
