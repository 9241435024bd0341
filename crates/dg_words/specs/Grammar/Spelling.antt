-- The meaning of a reader's answer, by the grammar alone.
use Rattle.std.specs.Prelude.{◌≡◌, ℕ, ◌+◌, List, [], ◌∷◌, drop, false}
use Rattle.dg_words.specs.Piece.{Piece}
use Rattle.dg_lists.specs.declared.fault.WordFault.{WordFault}
use Rattle.dg_words.specs.declared.word.Word.{Word}
use Rattle.dg_words.specs.Grammar.Words.{Begun, WordsOf}
use Rattle.dg_words.specs.Grammar.Operands as operands
use Rattle.dg_words.specs.Grammar.Saying.{IsWrong}
use Rattle.dg_lists.specs.Grammar.Spelling.{IsFirstFault}

-- a command of these words begins at a place, and the next place is that behind it
abbrev pub SpellsCommand : List ℕ → ℕ → List Word → ℕ → Type 0
SpellsCommand text at words next = (n : ℕ) × (next ≡ at + n) × Begun (drop at text) words n

-- an operand begins at a place, as one word, and the next place is that behind it
abbrev pub SpellsOperand : List ℕ → ℕ → List Word → ℕ → Type 0
SpellsOperand text at words next = (ps : List Piece) × (n : ℕ) × (words ≡ record { expand = false; parts = ps } ∷ []) × (next ≡ at + n) × operands.Begun (drop at text) ps n

-- the text begins with a command, it begins with an operand, it spells words
abbrev pub BeginsCommand : List ℕ → Type 0
BeginsCommand text = (words : List Word) × (n : ℕ) × Begun text words n

abbrev pub BeginsOperand : List ℕ → Type 0
BeginsOperand text = (ps : List Piece) × (n : ℕ) × operands.Begun text ps n

abbrev pub SpellsWords : List ℕ → Type 0
SpellsWords text = (words : List Word) × WordsOf text words

-- this is the first fault of a text that is to begin with a command
abbrev pub IsCommandFault : WordFault → List ℕ → Type 0
IsCommandFault fault text = IsFirstFault BeginsCommand (IsWrong BeginsCommand fault) text

-- of one that is to begin with an operand
abbrev pub IsOperandFault : WordFault → List ℕ → Type 0
IsOperandFault fault text = IsFirstFault BeginsOperand (IsWrong BeginsOperand fault) text

-- of one that is to spell words
abbrev pub IsWordsFault : WordFault → List ℕ → Type 0
IsWordsFault fault text = IsFirstFault SpellsWords (IsWrong SpellsWords fault) text
