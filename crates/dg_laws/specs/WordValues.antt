-- The words that are read in a text have parts that are nested in one another, in one way (Tcl(n), rules 4 to 8).
use Rattle.std.specs.Prelude.{◌≡◌, ℕ, List, map, Ok}
use Rattle.dg_words.specs.Reading.{command_at, operand_at, words_of}
use Rattle.dg_words.specs.declared.word.Word.{Word}
use Rattle.dg_language.specs.Words.{Parts, NestedWord, in_a_row, nested_in, word_of}

-- Pieces in a row are of one nested form at most, and that one is found.
abbrev pub NestedFormIsOne : Type 0
NestedFormIsOne = (ps : Parts) → nested_in (in_a_row ps) ≡ ps

-- these words have nested parts
abbrev pub AreNested : List Word → Type 0
AreNested ws = (nested : List NestedWord) × (map word_of nested ≡ ws)

-- So have the words of a command that is read in a text, those of a text that is read as words, and an operand.
abbrev pub ReadWordsAreNested : Type 0
ReadWordsAreNested =
    ((text : List ℕ) (at next : ℕ) (ws : List Word) → command_at text at ≡ Ok (ws, next) → AreNested ws)
    × ((text : List ℕ) (ws : List Word) → words_of text ≡ Ok ws → AreNested ws)
    × ((text : List ℕ) (at next : ℕ) (ws : List Word) → operand_at text at ≡ Ok (ws, next) → AreNested ws)
