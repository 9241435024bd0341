-- How the code's answers on values are seen by the definitions.
use Rattle.std.specs.Prelude.{◌≡◌, ℕ, ℤ, List, Result, Ok, Err, ◌⊎◌, Option, None, Some}
use Rattle.dg_expr.specs.declared.fault.Side.TheVariants.{Left, Right}
use Rattle.dg_expr.specs.declared.fault.ExprFault.{ExprFault}
use Rattle.dg_expr.specs.declared.fault.ExprFault.TheVariants.{Memory, NotWhole}
use Rattle.dg_expr.specs.Operator.{Value, number_value}

-- A function returned this value, unless memory ran out.
abbrev pub HasValue : Value → Result (List ℕ) ExprFault → Type 0
HasValue v (Ok text) = v ≡ Ok text
HasValue v (Err f) = (f ≡ Memory) ⊎ (v ≡ Err f)

-- the number whose text is the value, or the value's fault
abbrev pub Computes : Value → Result ℤ ExprFault → Type 0
Computes v (Ok z) = v ≡ number_value z
Computes v (Err f) = v ≡ Err f

-- the fault of two operands that aren't both whole
abbrev pub IsNotWhole : Option ℤ → Option ℤ → ExprFault → Type 0
IsNotWhole None y f = f ≡ NotWhole Left
IsNotWhole (Some x) None f = f ≡ NotWhole Right
IsNotWhole (Some x) (Some y) f = ⊥
