-- The meaning of each kind of fault in a list.
use Rattle.std.specs.Prelude.{◌≡◌, ◌≢◌, ℕ, suc, ◌+◌, ◌<◌, List, [], ◌∷◌, ◌++◌, length, true, false, nat_lt, ◌⊎◌}
use Rattle.std.specs.Char.{digit_value}
use lib.Utf8.{scalar}
use Rattle.dg_lists.specs.declared.fault.WordFault.{WordFault}
use Rattle.dg_lists.specs.declared.fault.WordFault.TheVariants.{ListBrace, ListQuote, ListAfter, BadCodePoint}
use Rattle.dg_lists.specs.declared.kinds.Escape.{Escape}
use Rattle.dg_lists.specs.declared.kinds.Escape.TheVariants.{Octal}
use Rattle.dg_lists.specs.Transitions.{digits_of, letter_of}
use Rattle.dg_lists.specs.Grammar.Escapes.{each, value_from}
use Rattle.dg_lists.specs.Grammar.Lists.{Parted}
use Rattle.dg_lists.specs.Grammar.Continuing.{IsList}

-- a text with this byte
pub record Has (b : ℕ) (text : List ℕ) : Type 0 where
  pub front : List ℕ
  pub rest : List ℕ
  pub split : text ≡ front ++ b ∷ rest

-- The text ends at this place, and all that makes such a text of it has this byte: it ends what is open.
abbrev pub Misses : (List ℕ → Type 0) → ℕ → List ℕ → ℕ → Type 0
Misses Is b text place = (place ≡ length text) × ((more : List ℕ) → Is (text ++ more) → Has b more)

-- An element ends at this place, as a braced or a quoted one does: the text before it is a list, and what goes on that
-- list begins with what parts elements.
pub record EndsElement (text : List ℕ) (place : ℕ) : Type 0 where
  pub front : List ℕ
  pub rest : List ℕ
  pub split : text ≡ front ++ rest
  pub place_is : place ≡ length front
  pub is_list : IsList front
  pub is_parted : (more : List ℕ) → IsList (front ++ more) → Parted more

-- An escape may stand behind these bytes: in a bare element, or, where this is so, in a quoted one.
abbrev pub MayEscape : Type 0 → List ℕ → Type 0
MayEscape quoted before = IsList (before ++ 92 ∷ 97 ∷ []) ⊎ (quoted × IsList (before ++ 92 ∷ 97 ∷ 34 ∷ []))

-- An escape by number writes no character of Unicode. The place is that behind its digits, or of the last one where no
-- more may follow. In a quoted element something stands there: else the quote is what is missing.
pub record WritesNone (text : List ℕ) (place : ℕ) : Type 0 where
  pub before : List ℕ
  pub escape : Escape
  pub digits : List ℕ
  pub rest : List ℕ
  pub split : text ≡ before ++ 92 ∷ letter_of escape ∷ digits ++ rest
  pub may_escape : MayEscape (place < length text) before
  pub by_letter : escape ≢ Octal
  pub are_digits : each (λ d. nat_lt (digit_value d) 16) digits ≡ true
  pub no_character : scalar (value_from 16 0 digits) ≡ false
  pub place_is : ((length digits < digits_of escape) × (place ≡ length before + 2 + length digits))
      ⊎ ((length digits ≡ digits_of escape) × (suc place ≡ length before + 2 + length digits))

-- the fault of a list
abbrev pub Says : WordFault → List ℕ → ℕ → Type 0
Says ListBrace text place = Misses IsList 125 text place
Says ListQuote text place = Misses IsList 34 text place
Says ListAfter text place = EndsElement text place
Says BadCodePoint text place = WritesNone text place
Says f text place = ⊥
