-- The rest of a script's commands, and the commands that were read of a text.
use Rattle.std.specs.Prelude.{◌≡◌, ℕ, ◌≤◌, List, [], ◌∷◌, drop, length, Option, Some, None}
use Rattle.std.specs.Arc.{arc_value}
use Rattle.std.specs.declared.sync.Arc.{Arc}
use Rattle.std.specs.declared.alloc.Global.{Global}
use Rattle.dg_language.specs.declared.command.Command.{Command}
use Rattle.dg_language.specs.declared.substitution.Substitution.{Substitution}
use Rattle.dg_language.specs.Language.{commands_at}
use Rattle.dg_compiled.specs.Steps.{steps_in}
use Rattle.dg_compiled.specs.declared.script.Source.{Source}
use Rattle.dg_compiled.specs.declared.script.Source.TheVariants.{Text, Kept}

-- the steps in which the words of the first command are made, if there is one that can be read
abbrev pub first_steps : List Command → List Substitution
first_steps [] = []
first_steps (c ∷ cs) = steps_in c

-- the commands from a place on
abbrev pub left_of : Source → ℕ → List Command
left_of (Text text) at = commands_at text at
left_of (Kept commands) at = drop at (arc_value commands)

abbrev pub IsPlace : Source → ℕ → Type 0
IsPlace (Text text) at = at ≤ length text
IsPlace (Kept commands) at = Unit {0}

-- the steps in which the words of the command at a place are made
abbrev pub steps_at : List Command → ℕ → List Substitution
steps_at commands at = first_steps (drop at commands)

-- the commands that are kept of a text, if any are
abbrev pub IsRead : List ℕ → Option (Arc (List Command) Global) → Type 0
IsRead text None = Unit {0}
IsRead text (Some commands) = arc_value commands ≡ commands_at text 0
