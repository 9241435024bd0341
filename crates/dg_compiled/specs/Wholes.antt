-- Expressions of whole numbers.
use Rattle.std.specs.Prelude.{◌≡◌, ℕ, ℤ, List, [], ◌∷◌, ◌++◌, Some}
use Rattle.dg_expr.specs.Code.{run}
use Rattle.dg_expr.specs.Number.{number_of, decimal_text}
use Rattle.dg_expr.specs.declared.code.Instruction.{Instruction}
use Rattle.dg_expr.specs.declared.operator.Infix.{Infix}
use Rattle.dg_expr.specs.Arithmetic.{GivesWhole}
use Rattle.dg_language.specs.declared.code.Code.TheVariants.{Done}
use Rattle.dg_language.specs.declared.substitution.Substitution.{Substitution}
use Rattle.dg_language.specs.State.{State}
use Rattle.dg_language.specs.Evaluation.{Then}
use Rattle.dg_language.specs.Expressions.{host}
use Rattle.dg_language.specs.Language.{evaluate}
use Rattle.dg_compiled.specs.Texts.{Makes}

-- these values are these numbers
abbrev pub AreNumbers : List (List ℕ) → List ℤ → Type 0
AreNumbers [] [] = Unit {0}
AreNumbers [] (n ∷ ns) = ⊥
AreNumbers (v ∷ vs) [] = ⊥
AreNumbers (v ∷ vs) (n ∷ ns) = (number_of v ≡ Some n) × AreNumbers vs ns

-- these steps make a word that is this number
abbrev pub MakesWhole : State → List Substitution → ℤ → Type 0
MakesWhole s steps n = (v : List ℕ) × (Makes s steps v × (number_of v ≡ Some n))

-- an operator takes the two numbers on top, and gives this one
abbrev pub Combines : Infix → List ℤ → List ℤ → ℤ → Type 0
Combines op old new z = (x : ℤ) × ((y : ℤ) × ((old ≡ y ∷ x ∷ new) × GivesWhole op x y z))

-- code with these values on top, whatever lies below them, comes to other code with those on top
abbrev pub LeadsTo : State → List (List ℕ) → List Instruction → List (List ℕ) → List Instruction → Type 0
LeadsTo s before code after left =
    (depth : ℕ) (k : Then) (below : List (List ℕ))
    → run (host (evaluate depth) k) (before ++ below) 0 code s (k Done) ≡ run (host (evaluate depth) k) (after ++ below) 0 left s (k Done)

-- an instruction turns values that are the old numbers into values that are the new ones
unfoldable pub Advances : State → Instruction → List ℤ → List ℤ → Type 0
Advances s i old new =
    (before : List (List ℕ)) → AreNumbers before old
    → (after : List (List ℕ)) × (AreNumbers after new × ((left : List Instruction) → LeadsTo s before (i ∷ left) after left))

-- code comes to this part of it, with values on top that are these numbers
unfoldable pub Waits : State → List Instruction → List Instruction → List ℤ → Type 0
Waits s code left numbers = (after : List (List ℕ)) × (AreNumbers after numbers × LeadsTo s [] code after left)

-- code comes to the text of a number by itself
unfoldable pub ComesToWhole : State → List Instruction → ℤ → Type 0
ComesToWhole s code z =
    (depth : ℕ) (k : Then) (below : List (List ℕ)) → run (host (evaluate depth) k) below 0 code s (k Done) ≡ k Done (decimal_text z) s
