-- The numbers that operators give whole numbers, whatever their texts are.
use Rattle.std.specs.Prelude.{◌≡◌, ℕ, ℤ, List, Some, Ok}
use Rattle.dg_expr.specs.declared.operator.Infix.{Infix}
use Rattle.dg_expr.specs.Number.{number_of, decimal_text}
use Rattle.dg_expr.specs.Operator.{value_of}

-- between any two texts that are these numbers the operator gives the text of a third
abbrev pub GivesWhole : Infix → ℤ → ℤ → ℤ → Type 0
GivesWhole op x y z = (a b : List ℕ) → number_of a ≡ Some x → number_of b ≡ Some y → value_of op a b ≡ Ok (decimal_text z)
