-- The rest of an expression's evaluation.
use Rattle.std.specs.Prelude.{ℕ, List, ◌∷◌}
use Rattle.dg_expr.specs.Code.{run}
use Rattle.dg_expr.specs.declared.code.Instruction.{Instruction}
use Rattle.dg_language.specs.declared.code.Code.TheVariants.{Done}
use Rattle.dg_language.specs.Play.{Play}
use Rattle.dg_language.specs.State.{State}
use Rattle.dg_language.specs.Evaluation.{Ending, Then}
use Rattle.dg_language.specs.Expressions.{host}
use Rattle.dg_language.specs.Language.{evaluate}
use Rattle.dg_compiled.specs.declared.calculation.Calculation.{Calculation}

-- the code of an expression goes on with these values and this many instructions passed over
abbrev pub calculating_on : Calculation → List (List ℕ) → ℕ → List Instruction → State → Then → Play Ending
calculating_on c values passed left s k = run (host (evaluate c.depth) k) values passed left s (k Done)

abbrev pub calculating : Calculation → State → Then → Play Ending
calculating c s k = calculating_on c c.values c.passed c.left s k

-- a value is put on top
abbrev pub calculating_with : Calculation → List ℕ → State → Then → Play Ending
calculating_with c v s k = calculating_on c (v ∷ c.values) c.passed c.left s k

-- an instruction comes before those that are left
abbrev pub instructing : Calculation → Instruction → State → Then → Play Ending
instructing c i s k = calculating_on c c.values 0 (i ∷ c.left) s k
