-- Texts of which commands, words and operands are read.
use Rattle.std.specs.Prelude.{◌≡◌, ℕ, List, Ok}
use Rattle.dg_words.specs.declared.kinds.Level.{Level}
use Rattle.dg_lists.specs.declared.kinds.Mode.{Mode}
use Rattle.dg_words.specs.declared.word.Word.{Word}
use Rattle.dg_words.specs.Machine.{read, fresh}
use Rattle.dg_words.specs.Reading.{command_at, operand_at, words_of}

-- words are read
abbrev pub IsRead : Level → Mode → List ℕ → Type 0
IsRead l m text = (words : List Word) × (next : ℕ) × (read l text (fresh m) 0 ≡ Ok (words, next))

-- the text begins with a command
abbrev pub HasCommand : List ℕ → Type 0
HasCommand text = (words : List Word) × (next : ℕ) × (command_at text 0 ≡ Ok (words, next))

-- the text is read as words
abbrev pub IsWords : List ℕ → Type 0
IsWords text = (words : List Word) × (words_of text ≡ Ok words)

-- the text begins with an operand
abbrev pub HasOperand : List ℕ → Type 0
HasOperand text = (words : List Word) × (next : ℕ) × (operand_at text 0 ≡ Ok (words, next))
