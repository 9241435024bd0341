-- Steps through the rest of an expression's instructions.
use Rattle.std.specs.Prelude.{◌≡◌, ℕ, ◌+◌, List, [], ◌∷◌, drop, Option, Some, None}
use Rattle.std.specs.Arc.{arc_value}
use Rattle.std.specs.declared.sync.Arc.{Arc}
use Rattle.std.specs.declared.alloc.Global.{Global}
use Rattle.dg_expr.specs.Reading.{tree_in}
use Rattle.dg_expr.specs.declared.operator.Infix.{Infix}
use Rattle.dg_language.specs.Expressions.{code_in}
use Rattle.dg_words.specs.Piece.{Piece}
use Rattle.dg_expr.specs.declared.code.Instruction.{Instruction}
use Rattle.dg_expr.specs.declared.code.Instruction.TheVariants.{Push, ApplyOne, Apply, And, Or, Truth, Unless, Skip}
use Rattle.dg_language.specs.declared.substitution.Substitution.{Substitution}
use Rattle.dg_language.specs.WordSteps.{operand_steps}
use Rattle.dg_language.specs.State.{State}
use Rattle.dg_compiled.specs.Texts.{Makes}
use Rattle.dg_compiled.specs.declared.instructions.Taken.{Taken}
use Rattle.dg_compiled.specs.declared.instructions.Taken.TheVariants.{Value, Operand, One, Two, And as TakenAnd, Or as TakenOr, Truth as TakenTruth, Unless as TakenUnless, Skip as TakenSkip}

-- the instructions from a place on, if there are any
abbrev pub left_of : Option (List Instruction) → ℕ → List Instruction
left_of None at = []
left_of (Some code) at = drop at code

-- the code that is kept of a text, if it is
abbrev pub IsCode : List ℕ → Option (Arc (Option (List Instruction)) Global) → Type 0
IsCode text None = Unit {0}
IsCode text (Some code) = arc_value code ≡ code_in (tree_in text)

-- one operator, between two operands that make these values by themselves
abbrev pub IsBetween : State → List Instruction → List ℕ → Infix → List ℕ → Type 0
IsBetween s code left op right =
    (a : List Piece) × ((b : List Piece) × ((code ≡ Push a ∷ Push b ∷ Apply op ∷ []) × Makes s (operand_steps a) left × Makes s (operand_steps b) right))

-- An operand that these steps make is taken: as the value that they make by themselves, or with them.
abbrev pub IsOperand : State → List Substitution → Taken → Type 0
IsOperand s made (Value v) = Makes s made v
IsOperand s made (Operand steps) = steps ≡ made
IsOperand s made (One op) = ⊥
IsOperand s made (Two op) = ⊥
IsOperand s made (TakenAnd passed) = ⊥
IsOperand s made (TakenOr passed) = ⊥
IsOperand s made TakenTruth = ⊥
IsOperand s made (TakenUnless passed) = ⊥
IsOperand s made (TakenSkip passed) = ⊥

-- an instruction as it is taken
abbrev pub IsTaken : State → Instruction → Taken → Type 0
IsTaken s i (Value v) = (pieces : List Piece) × ((i ≡ Push pieces) × Makes s (operand_steps pieces) v)
IsTaken s i (Operand steps) = (pieces : List Piece) × ((i ≡ Push pieces) × (steps ≡ operand_steps pieces))
IsTaken s i (One op) = i ≡ ApplyOne op
IsTaken s i (Two op) = i ≡ Apply op
IsTaken s i (TakenAnd passed) = i ≡ And passed
IsTaken s i (TakenOr passed) = i ≡ Or passed
IsTaken s i TakenTruth = i ≡ Truth
IsTaken s i (TakenUnless passed) = i ≡ Unless passed
IsTaken s i (TakenSkip passed) = i ≡ Skip passed

-- the first instruction is taken, where there is one
abbrev pub Takes : State → List Instruction → List Instruction → Option Taken → Type 0
Takes s old new None = (old ≡ []) × (new ≡ [])
Takes s old new (Some taken) = (i : Instruction) × ((old ≡ i ∷ new) × IsTaken s i taken)

-- how the instruction at a place is taken
abbrev pub TakesAt : State → List Instruction → ℕ → Option Taken → Type 0
TakesAt s code at taken = Takes s (drop at code) (drop (at + 1) code) taken
