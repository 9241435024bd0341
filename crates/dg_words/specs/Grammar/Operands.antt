-- How an operand is spelled: the text of one value in an expression, besides numbers and names.
use Rattle.std.specs.Prelude.{◌≡◌, ◌≢◌, ℕ, List, [], ◌∷◌, ◌++◌, length, Bool, true, false}
use Rattle.dg_words.specs.Piece.{Piece, Text, Variable, Element, End, Command}
use Rattle.dg_lists.specs.declared.kinds.Class.{Class}
use Rattle.dg_lists.specs.declared.kinds.Class.TheVariants as class
use Rattle.dg_words.specs.declared.kinds.Level.TheVariants.{Alone}
use Rattle.dg_lists.specs.declared.kinds.Context.TheVariants.{Quoted, Index}
use Rattle.dg_lists.specs.Classes.{class_of}
use Rattle.dg_lists.specs.Grammar.Escapes.{each}
use Rattle.dg_words.specs.Grammar.Words.{Braced, Named, Parts, Script, begins_variable, begins_with_colon, brace_name_byte, name_goes_on, with_text}

-- an operand begins with a quote, a brace, a bracket or a dollar sign
abbrev pub begins_operand : Class → Bool
begins_operand class.Quote = true
begins_operand class.Open = true
begins_operand class.LeftBracket = true
begins_operand class.Dollar = true
begins_operand c = false

abbrev pub is_begun : List ℕ → Bool
is_begun [] = false
is_begun (b ∷ bs) = begins_operand (class_of b)

-- An operand before the text after, and its pieces. A dollar sign that begins no variable is a text, with a colon that
-- stands behind it; where no operand begins, there are no pieces.
pub data Operand (after : List ℕ) : List ℕ → List Piece → Type 0 where
  quoted : {t : List ℕ} {ps : List Piece} → Parts Alone 100 Quoted (34 ∷ after) t ps → Operand after (34 ∷ t ++ 34 ∷ []) ps
  braced : {t v : List ℕ} → Braced t v → Operand after (123 ∷ t ++ 125 ∷ []) (with_text v [])
  variable : (name : List ℕ) → Named name → name ≢ [] → name_goes_on after ≡ false → Operand after (36 ∷ name) (Variable name ∷ [])
  braced_variable : (name : List ℕ) → each brace_name_byte name ≡ true → Operand after (36 ∷ 123 ∷ name ++ 125 ∷ []) (Variable name ∷ [])
  element : {i : List ℕ} {is : List Piece} (name : List ℕ) → Named name → Parts Alone 99 Index (41 ∷ after) i is → Operand after (36 ∷ name ++ 40 ∷ i ++ 41 ∷ []) (Element name ∷ is ++ End ∷ [])
  substitution : {c : List ℕ} → Script 99 (93 ∷ after) c → Operand after (91 ∷ c ++ 93 ∷ []) (Command c ∷ [])
  dollar : begins_variable after ≡ false → begins_with_colon after ≡ false → Operand after (36 ∷ []) (Text (36 ∷ []) ∷ [])
  dollar_colon : begins_with_colon after ≡ false → Operand after (36 ∷ 58 ∷ []) (Text (36 ∷ 58 ∷ []) ∷ [])
  nothing : is_begun after ≡ false → Operand after [] []

-- A text begins with an operand: its pieces, and how many bytes it takes.
pub data Begun : List ℕ → List Piece → ℕ → Type 0 where
  operand : {t after : List ℕ} {ps : List Piece} → Operand after t ps → Begun (t ++ after) ps (length t)
