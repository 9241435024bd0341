-- The reading of a text, and steps through the rest of its commands.
use Rattle.std.specs.Prelude.{◌≡◌, ℕ, ◌+◌, ◌≤◌, ◌<◌, List, [], ◌∷◌, drop, length, Option, Some, None}
use Rattle.dg_words.specs.declared.word.Word.{Word}
use Rattle.dg_language.specs.declared.command.Command.{Command}
use Rattle.dg_language.specs.declared.command.Command.TheVariants.{Words, Unreadable}
use Rattle.dg_language.specs.declared.substitution.Substitution.{Substitution}
use Rattle.dg_language.specs.Play.{Play}
use Rattle.dg_language.specs.State.{State}
use Rattle.dg_language.specs.Evaluation.{Ending, Then}
use Rattle.dg_language.specs.Language.{command, commands_at, evaluate}
use Rattle.dg_language.specs.WordSteps.{substitutions}
use Rattle.dg_compiled.specs.Gathering.{gather}
use Rattle.dg_compiled.specs.declared.script.WordSteps.{WordSteps}
use Rattle.dg_compiled.specs.declared.script.WordSteps.TheVariants.{Read, Kept as KeptSteps}
use Rattle.dg_compiled.specs.declared.script.Begun.{Begun}
use Rattle.dg_compiled.specs.declared.script.Begun.TheVariants.{Words as Made, Unreadable as NoSteps}
use Rattle.dg_compiled.specs.declared.script.Next.{Next}
use Rattle.dg_compiled.specs.declared.script.Next.TheVariants.{Words as NextWords, Unreadable as NextFault, Nothing}

-- the command at a place of a text
abbrev pub Reads : List ℕ → ℕ → Next → Type 0
Reads text at (NextWords ws next) = (commands_at text at ≡ Words ws ∷ commands_at text next) × (at < next) × (next ≤ length text)
Reads text at (NextFault fault) = commands_at text at ≡ Unreadable fault ∷ []
Reads text at Nothing = commands_at text at ≡ []

-- the steps in which the words of a command are made, as they were just read, or kept
abbrev pub steps_of : WordSteps → List Substitution
steps_of (Read steps) = steps
steps_of (KeptSteps steps) = steps

-- the words of a command begin to be made, by these steps
abbrev pub begins : List Substitution → ℕ → State → Then → Play Ending
begins steps depth s k = gather (evaluate depth) (command (evaluate depth)) [] [] [] steps s k

-- The first command, where there is one, has the steps of its words; what is behind one that can't be read does not matter.
abbrev pub Takes : List Command → List Command → Option Begun → Type 0
Takes old new None = old ≡ []
Takes old new (Some (Made steps)) = (ws : List Word) × ((old ≡ Words ws ∷ new) × (steps_of steps ≡ substitutions ws))
Takes old new (Some (NoSteps fault)) = (more : List Command) × (old ≡ Unreadable fault ∷ more)

-- how the command at a place begins
abbrev pub BeginsAt : List Command → ℕ → Begun → Type 0
BeginsAt commands at begun = Takes (drop at commands) (drop (at + 1) commands) (Some begun)

-- the command at a place has the steps of its words
abbrev pub HasSteps : List Command → ℕ → List Substitution → Type 0
HasSteps commands at steps = (ws : List Word) × ((drop at commands ≡ Words ws ∷ drop (at + 1) commands) × (steps ≡ substitutions ws))
