-- The fast paths that a command's words allow.
use Rattle.std.specs.Prelude.{◌≡◌, ℕ, ◌+◌, ◌≤◌, List, [], ◌∷◌, drop, length, codes, Option}
use Rattle.std.specs.Arc.{arc_value}
use Rattle.dg_words.specs.declared.word.Word.{Word}
use Rattle.dg_scope.specs.Scopes.{value_limit}
use Rattle.dg_expr.specs.Reading.{tree_in}
use Rattle.dg_expr.specs.declared.code.Instruction.{Instruction}
use Rattle.dg_language.specs.declared.command.Command.TheVariants.{Words}
use Rattle.dg_language.specs.declared.substitution.Substitution.{Substitution}
use Rattle.dg_language.specs.declared.substitution.Substitution.TheVariants.{Literal, Script, WordEnds}
use Rattle.dg_language.specs.Expressions.{code_in}
use Rattle.dg_language.specs.Language.{commands_at}
use Rattle.dg_language.specs.WordSteps.{substitutions}
use Rattle.dg_compiled.specs.declared.ways.Way.{Way}
use Rattle.dg_compiled.specs.declared.ways.Way.TheVariants.{Setting, Counting, Computing, SettingComputed, Returning, Other}

-- a word begins at a place, whose steps are this one alone
abbrev pub HasWord : List Substitution → ℕ → Substitution → Type 0
HasWord steps at x = drop at steps ≡ x ∷ WordEnds ∷ drop (at + 2) steps

-- these steps make `expr` and a text, and no more
abbrev pub IsExpr : List Substitution → List ℕ → Type 0
IsExpr steps text = HasWord steps 0 (Literal (codes "expr")) × HasWord steps 2 (Literal text) × (length steps ≡ 4) × (length text ≤ value_limit)

-- and that text has this code
abbrev pub HasCode : List Substitution → Option (List Instruction) → Type 0
HasCode steps code = (text : List ℕ) × (IsExpr steps text × (code ≡ code_in (tree_in text)))

-- such a command is all that a script has
abbrev pub IsCoded : List ℕ → Option (List Instruction) → Type 0
IsCoded script code = (ws : List Word) × ((commands_at script 0 ≡ Words ws ∷ []) × HasCode (substitutions ws) code)

-- the words that these steps make are those of a command that runs in this way
abbrev pub HasWay : List Substitution → Way → Type 0
HasWay steps Setting = HasWord steps 0 (Literal (codes "set"))
HasWay steps Counting = HasWord steps 0 (Literal (codes "incr"))
HasWay steps (Computing formula) = HasCode steps (arc_value formula)
HasWay steps (SettingComputed formula) =
    (script : List ℕ) × (HasWord steps 0 (Literal (codes "set")) × HasWord steps 4 (Script script) × (length steps ≡ 6) × IsCoded script (arc_value formula))
HasWay steps (Returning formula) =
    (script : List ℕ) × (HasWord steps 0 (Literal (codes "return")) × HasWord steps 2 (Script script) × (length steps ≡ 4) × IsCoded script (arc_value formula))
HasWay steps Other = Unit {0}
