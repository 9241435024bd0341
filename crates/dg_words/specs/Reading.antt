-- The reading of a command, of the words of a list, and of an operand.
use Rattle.std.specs.Prelude.{ℕ, List, Result, Ok, Err, drop}
use Rattle.dg_lists.specs.declared.fault.WordFault.{WordFault}
use Rattle.dg_words.specs.declared.kinds.Level.TheVariants as level
use Rattle.dg_lists.specs.declared.kinds.Mode.TheVariants.{Start, Gap, Operand}
use Rattle.dg_words.specs.declared.word.Word.{Word}
use Rattle.dg_words.specs.Machine.{Answer, read, fresh}

-- an answer without its fault's place
abbrev pub kind_of : Answer → Result (List Word × ℕ) WordFault
kind_of (Ok x) = Ok x
kind_of (Err e) = Err e.0

-- without the place behind
abbrev pub words_only : Answer → Result (List Word) WordFault
words_only (Ok x) = Ok x.0
words_only (Err e) = Err e.0

-- The words of the first command from a place on and the place behind it, or the first fault.
unfoldable pub command_at : List ℕ → ℕ → Result (List Word × ℕ) WordFault
command_at text at = kind_of (read level.Top (drop at text) (fresh Start) at)

-- The words of a text in which newlines are blanks, and `;` and `#` stand for themselves, or the first fault.
unfoldable pub words_of : List ℕ → Result (List Word) WordFault
words_of text = words_only (read level.List text (fresh Gap) 0)

-- The word of the quoted or braced text, variable or command that begins at a place, and the place behind it.
unfoldable pub operand_at : List ℕ → ℕ → Result (List Word × ℕ) WordFault
operand_at text at = kind_of (read level.Alone (drop at text) (fresh Operand) at)
