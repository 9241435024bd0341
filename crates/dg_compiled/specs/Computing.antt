-- How far the instructions of an expression go without a question or an evaluation.
use Rattle.std.specs.Prelude.{◌≡◌, ℕ, ◌^◌, ◌<◌, List, length, Option, Some, None}
use Rattle.dg_expr.specs.declared.code.Instruction.{Instruction}
use Rattle.dg_expr.specs.Number.{decimal_text}
use Rattle.dg_language.specs.declared.code.Code.TheVariants.{Done}
use Rattle.dg_language.specs.declared.substitution.Purpose.TheVariants.{Load}
use Rattle.dg_language.specs.State.{State}
use Rattle.dg_language.specs.Evaluation.{Then, fail, if_done}
use Rattle.dg_compiled.specs.declared.calculation.Calculation.{Calculation}
use Rattle.dg_compiled.specs.declared.making.Making.{Making}
use Rattle.dg_compiled.specs.declared.computing.Computed.{Computed}
use Rattle.dg_compiled.specs.declared.computing.Computed.TheVariants.{Value, Whole, Failed, Operand}
use Rattle.dg_compiled.specs.Calculating.{calculating, calculating_with, instructing}
use Rattle.dg_compiled.specs.Making.{making_on}

-- an instruction was done, and no other was taken
abbrev pub IsDone : Instruction → State → Calculation → Calculation → Type 0
IsDone i s old new =
    ((k : Then) → instructing old i s k ≡ calculating new s k) × (new.left ≡ old.left) × (new.depth ≡ old.depth)

-- an instruction that no value can be given to is an error
abbrev pub Does : Instruction → Calculation → Calculation → Option (List ℕ) → Type 0
Does i old new None = (s : State) → IsDone i s old new
Does i old new (Some message) = (s : State) (k : Then) → instructing old i s k ≡ fail message s k

-- the words of an operand are left in the making
abbrev pub Leaves : Instruction → State → Calculation → Calculation → Making → Type 0
Leaves i s old new making =
    ((k : Then) → instructing old i s k ≡ making_on making new.depth s (if_done (λ v t. calculating_with new v t k) k))
    × (making.purpose ≡ Load) × (length making.left < 2 ^ 64) × (new.left ≡ old.left)

-- an operand was put on top, or is left in the making
abbrev pub Loads : Instruction → State → Calculation → Calculation → Option Making → Type 0
Loads i s old new None = IsDone i s old new
Loads i s old new (Some making) = Leaves i s old new making

-- an instruction was done, or the expression has come to this
abbrev pub Instructs : Instruction → State → Calculation → Calculation → Option Computed → Type 0
Instructs i s old new None = IsDone i s old new
Instructs i s old new (Some (Value v)) = (k : Then) → instructing old i s k ≡ k Done v s
Instructs i s old new (Some (Whole z)) = (k : Then) → instructing old i s k ≡ k Done (decimal_text z) s
Instructs i s old new (Some (Failed message)) = (k : Then) → instructing old i s k ≡ fail message s k
Instructs i s old new (Some (Operand making)) = Leaves i s old new making

-- the expression has come to its value, to an error, or to an operand, of which these words in the making are left
abbrev pub Computes : State → Calculation → Calculation → Computed → Type 0
Computes s old new (Value v) = (k : Then) → calculating old s k ≡ k Done v s
Computes s old new (Whole z) = (k : Then) → calculating old s k ≡ k Done (decimal_text z) s
Computes s old new (Failed message) = (k : Then) → calculating old s k ≡ fail message s k
Computes s old new (Operand making) =
    ((k : Then) → calculating old s k ≡ making_on making new.depth s (if_done (λ v t. calculating_with new v t k) k))
    × (making.purpose ≡ Load) × (length making.left < 2 ^ 64) × (length new.left < length old.left)
