-- The commands by their names.
use Rattle.std.specs.Prelude.{List, ℕ, ◌∷◌, codes, Option, Some, Err, ◌≢◌}
use Rattle.dg_cmds.specs.declared.fault.CmdFault.TheVariants.{Memory}
use Rattle.dg_cmds.specs.Answers.{Answer, Command, given_by}
use Rattle.dg_cmds.specs.Formats.{format_of}
use Rattle.dg_cmds.specs.Lists.{list_commands}
use Rattle.dg_cmds.specs.Strings.{string_of}

-- the string, format and list commands by their names
abbrev pub pure_commands : List (List ℕ × Command)
pure_commands = (codes "string", string_of) ∷ (codes "format", format_of) ∷ list_commands

-- the answer of one of these commands for the words after its name; None where none has the name
unfoldable pub pure_of : List ℕ → List (List ℕ) → Option Answer
pure_of name words = given_by pure_commands name words

-- it is a value, a script error or a value too long, never want of memory
abbrev pub NoCommandWantsMemory : Type 0
NoCommandWantsMemory = (name : List ℕ) (words : List (List ℕ)) → pure_of name words ≢ Some (Err Memory)
