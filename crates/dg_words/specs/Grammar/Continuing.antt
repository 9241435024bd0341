-- A text with a fault spells nothing.
use Rattle.std.specs.Prelude.{◌≡◌, ℕ, List, Err}
use Rattle.dg_words.specs.Piece.{Piece}
use Rattle.dg_lists.specs.declared.fault.WordFault.{WordFault}
use Rattle.dg_words.specs.declared.word.Word.{Word}
use Rattle.dg_words.specs.Reading.{command_at, operand_at, words_of}
use Rattle.dg_words.specs.Grammar.Words.{Begun, WordsOf}
use Rattle.dg_words.specs.Grammar.Operands as operands

-- this fault is told of the command with which the text begins, and none is spelled there
abbrev pub HasNoCommand : WordFault → List ℕ → Type 0
HasNoCommand fault text = (command_at text 0 ≡ Err fault) × ((words : List Word) (n : ℕ) → Begun text words n → ⊥)

-- this fault is told of the text, and it spells no words
abbrev pub IsNoWords : WordFault → List ℕ → Type 0
IsNoWords fault text = (words_of text ≡ Err fault) × ((words : List Word) → WordsOf text words → ⊥)

-- this fault is told of the operand with which the text begins, and none is spelled there
abbrev pub HasNoOperand : WordFault → List ℕ → Type 0
HasNoOperand fault text = (operand_at text 0 ≡ Err fault) × ((parts : List Piece) (n : ℕ) → operands.Begun text parts n → ⊥)
