-- How the words of a command are made, by Tcl(n): by cases on their parts, which are nested in one another.
use Rattle.std.specs.Prelude.{ℕ, ◌+◌, Bool, true, false, List, [], ◌∷◌, ◌++◌, map, length, codes, Result, Ok, Err}
use Rattle.dg_words.specs.Piece.{Piece}
use Rattle.dg_words.specs.Piece as piece
use Rattle.dg_words.specs.declared.word.Word.{Word}
use Rattle.dg_language.specs.Play.{Play}
use Rattle.dg_language.specs.State.{State}
use Rattle.dg_language.specs.Evaluation.{Ending, Then, Nested, within, fail, if_done, list_in}
use Rattle.dg_language.specs.Variables.{read_variable}

abbrev pub element : List ℕ → List ℕ → List ℕ
element n index = n ++ codes "(" ++ index ++ codes ")"

-- a longer text, if it is no longer than a value may be
abbrev pub longer : List ℕ → List ℕ → State → (List ℕ → Play Ending) → Play Ending
longer text t s k = within (length text + length t) s (k (text ++ t))

abbrev pub with_elements : Result (List (List ℕ)) (List ℕ) → State → Then → (List (List ℕ) → Play Ending) → Play Ending
with_elements (Err message) s k f = fail message s k
with_elements (Ok es) s k f = f es

-- what is done with words that were made
abbrev pub Act : Type 0
Act = List (List ℕ) → State → Then → Play Ending

-- The parts of a word from one on: a text, a variable of this name, an element of this name whose index has parts of its own,
-- or a command substitution of this script; and the parts behind it.
pub data Parts : Type 0 where
  Nothing : Parts
  Text : List ℕ → Parts → Parts
  Variable : List ℕ → Parts → Parts
  Element : List ℕ → Parts → Parts → Parts
  Command : List ℕ → Parts → Parts

-- the same parts in a row, as a word has them
unfoldable pub in_a_row : Parts → List Piece
in_a_row Nothing = []
in_a_row (Text t ps) = piece.Text t ∷ in_a_row ps
in_a_row (Variable n ps) = piece.Variable n ∷ in_a_row ps
in_a_row (Element n index ps) = piece.Element n ∷ (in_a_row index ++ piece.End ∷ in_a_row ps)
in_a_row (Command t ps) = piece.Command t ∷ in_a_row ps

-- The parts that pieces in a row are, found from the last piece on: the end of an index begins parts, and its element takes
-- them. What lies to the right of a piece is the parts of each index that is open there, the inmost first, and the word's own.
abbrev pub put : Piece → List Parts → List Parts
put (piece.Text t) (ps ∷ outer) = Text t ps ∷ outer
put (piece.Variable n) (ps ∷ outer) = Variable n ps ∷ outer
put (piece.Command t) (ps ∷ outer) = Command t ps ∷ outer
put piece.End outer = Nothing ∷ outer
put (piece.Element n) (index ∷ ps ∷ outer) = Element n index ps ∷ outer
put p outer = outer

abbrev pub all_put : List Piece → List Parts
all_put [] = Nothing ∷ []
all_put (p ∷ ps) = put p (all_put ps)

abbrev pub inmost : List Parts → Parts
inmost [] = Nothing
inmost (ps ∷ outer) = ps

unfoldable pub nested_in : List Piece → Parts
nested_in ps = inmost (all_put ps)

-- the value of an evaluation is put behind a text
abbrev pub behind : List ℕ → (Then → Play Ending) → Then → (List ℕ → State → Play Ending) → Play Ending
behind text evaluation k f = evaluation (if_done (λ v s. longer text v s (λ u. f u s)) k)

-- What these parts come to behind a text: f is told the whole text.
unfoldable pub joined : Nested → Parts → List ℕ → State → Then → (List ℕ → State → Play Ending) → Play Ending
joined nested Nothing text s k f = f text s
joined nested (Text t ps) text s k f = longer text t s (λ u. joined nested ps u s k f)
joined nested (Variable n ps) text s k f = behind text (read_variable n s) k (λ u t. joined nested ps u t k f)
joined nested (Element n index ps) text s k f =
    joined nested index [] s k (λ i t. behind text (read_variable (element n i) t) k (λ u v. joined nested ps u v k f))
joined nested (Command script ps) text s k f = behind text (nested script s) k (λ u t. joined nested ps u t k f)

-- a word: its parts, and whether it is a list whose elements are words
pub record NestedWord : Type 0 where
  pub expand : Bool
  pub parts : Parts

-- the word that has these parts in a row
abbrev pub word_of : NestedWord → Word
word_of w = record { expand = w.expand; parts = in_a_row w.parts }

-- a word by its parts
abbrev pub nested_word : Word → NestedWord
nested_word w = record { expand = w.expand; parts = nested_in w.parts }

-- the words that a word's text gives: itself, or the elements of the list that it is
abbrev pub words_in : Bool → List ℕ → State → Then → (List (List ℕ) → Play Ending) → Play Ending
words_in false text s k f = f (text ∷ [])
words_in true text s k f = with_elements (list_in text) s k f

-- words are made one after another, behind those that are made, and then this is done with them
unfoldable pub all_made : Nested → Act → List (List ℕ) → List NestedWord → State → Then → Play Ending
all_made nested act made [] s k = act made s k
all_made nested act made (w ∷ ws) s k =
    joined nested w.parts [] s k (λ text t. words_in w.expand text t k (λ more. all_made nested act (made ++ more) ws t k))

-- so are words as they are read
abbrev pub words_made : Nested → Act → List Word → State → Then → Play Ending
words_made nested act ws s k = all_made nested act [] (map nested_word ws) s k
