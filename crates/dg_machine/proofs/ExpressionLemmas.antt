-- The frames of an expression.
use Rattle.std.proofs.Common.{◌≡◌, ℕ, ◌+◌, ◌*◌, ◌^◌, ◌<◌, List, ◌∷◌, length, ap, arith}
use Rattle.dg_language.specs.declared.substitution.Purpose.TheVariants.{Load}
use Rattle.dg_language.specs.State.{State}
use Rattle.dg_compiled.specs.declared.calculation.Calculation.{Calculation}
use Rattle.dg_machine.specs.declared.frame.Control.TheVariants.{Go}
use Rattle.dg_machine.specs.declared.frame.Frame.{Frame}
use Rattle.dg_machine.specs.declared.frame.Frame.TheVariants.{Calculating, Gathering}
use Rattle.dg_compiled.specs.declared.making.Making.{Making}
use Rattle.dg_machine.specs.Meaning.{budget, stack_weight, weight}

-- the frames of an operand, in front of its expression
pub weight-loading : (s : State) (m : Making) (d : ℕ) (c : Calculation) (fs : List Frame) → m.purpose ≡ Load → length m.left < 2 ^ 64
    → weight Go s (Gathering m d ∷ Calculating c ∷ fs) < weight Go s fs + 2 ^ 67 + 8 + 2 ^ 67 * length c.left
unfolding weight stack_weight budget
weight-loading s m d c fs e l = let b : budget m.purpose ≡ 0 = ap budget e in omega arith
