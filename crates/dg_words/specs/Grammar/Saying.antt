-- The meaning of each kind of fault in a script.
use Rattle.std.specs.Prelude.{◌≡◌, ◌≢◌, ℕ, suc, ◌+◌, ◌<◌, List, [], ◌∷◌, ◌++◌, length, Bool, true, false, nat_lt, ◌⊎◌}
use Rattle.std.specs.Char.{digit_value}
use lib.Utf8.{scalar}
use Rattle.dg_lists.specs.declared.fault.WordFault.{WordFault}
use Rattle.dg_lists.specs.declared.fault.WordFault.TheVariants.{MissingBrace, MissingQuote, MissingBracket, MissingParen, AfterBrace, AfterQuote, BadCodePoint}
use Rattle.dg_lists.specs.declared.kinds.Escape.{Escape}
use Rattle.dg_lists.specs.declared.kinds.Escape.TheVariants.{Octal}
use Rattle.dg_lists.specs.Transitions.{digits_of, letter_of}
use Rattle.dg_lists.specs.Grammar.Escapes.{each, value_from}
use Rattle.dg_words.specs.Grammar.Ends.{Open}
use Rattle.dg_words.specs.Grammar.Words as words
use Rattle.dg_words.specs.declared.kinds.Level.TheVariants.{Inside}

-- One bracket or index too many: this byte stands at this place, where a dot could stand.
pub record TooMany (Is : List ℕ → Type 0) (b : ℕ) (text : List ℕ) (place : ℕ) : Type 0 where
  pub front : List ℕ
  pub rest : List ℕ
  pub split : text ≡ front ++ b ∷ rest
  pub place_is : place ≡ length front
  pub more : List ℕ
  pub is_such : Is (front ++ 46 ∷ more)

-- The text ends at this place, and the inmost of the items that are open in it has not got this end.
abbrev pub LacksEnd : (List ℕ → Type 0) → ℕ → List ℕ → ℕ → Type 0
LacksEnd Is k text place = (place ≡ length text) × (ks : List ℕ) × Open Is text (k ∷ ks)

-- Where the text ends at this place, nothing is open in it.
abbrev pub OpensNothing : (List ℕ → Type 0) → List ℕ → ℕ → Type 0
OpensNothing Is text place = place ≡ length text → Open Is text []

-- A word in braces or in quotes ends with this byte, just before this place or before a backslash there: what goes on
-- the text from there begins with what parts words.
pub record EndsWord (Is : List ℕ → Type 0) (k : ℕ) (text : List ℕ) (place : ℕ) : Type 0 where
  pub before : List ℕ
  pub rest : List ℕ
  pub split : text ≡ before ++ k ∷ rest
  pub is_parted : (more : List ℕ) → Is (before ++ k ∷ more) → words.Parted Inside more
  pub place_is : (place ≡ length before + 1) ⊎ ((place ≡ length before + 2) × (more : List ℕ) × (rest ≡ 92 ∷ more))

-- a hexadecimal digit
abbrev pub is_hex : ℕ → Bool
is_hex d = nat_lt (digit_value d) 16

abbrev pub BeginsWithHex : List ℕ → Type 0
BeginsWithHex [] = ⊥
BeginsWithHex (b ∷ bs) = is_hex b ≡ true

-- An escape by number writes no character of Unicode, and only more of its digits can mend it. The place is that behind
-- its digits, or of the last one where no more may follow.
pub record Unwritten (Is : List ℕ → Type 0) (text : List ℕ) (place : ℕ) : Type 0 where
  pub before : List ℕ
  pub escape : Escape
  pub digits : List ℕ
  pub rest : List ℕ
  pub split : text ≡ before ++ 92 ∷ letter_of escape ∷ digits ++ rest
  pub by_letter : escape ≢ Octal
  pub are_digits : each is_hex digits ≡ true
  pub no_character : scalar (value_from 16 0 digits) ≡ false
  pub unfinished : (more : List ℕ) → Is (before ++ 92 ∷ letter_of escape ∷ digits ++ more) → (length digits < digits_of escape) × BeginsWithHex more
  pub place_is : ((length digits < digits_of escape) × (place ≡ length before + 2 + length digits))
      ⊎ ((length digits ≡ digits_of escape) × (suc place ≡ length before + 2 + length digits))

-- What is wrong in words. The end of the inmost brace, quote, bracket or index is missing; or, where too many brackets
-- and indices stand inside each other, the one too many stands at the place. Or a word has ended, or an escape writes
-- no character, and where the text ends there nothing is open.
abbrev pub IsWrong : (List ℕ → Type 0) → WordFault → List ℕ → ℕ → Type 0
IsWrong Is MissingBrace text place = LacksEnd Is 125 text place
IsWrong Is MissingQuote text place = LacksEnd Is 34 text place
IsWrong Is MissingBracket text place = LacksEnd Is 93 text place ⊎ TooMany Is 91 text place
IsWrong Is MissingParen text place = LacksEnd Is 41 text place ⊎ TooMany Is 40 text place
IsWrong Is AfterBrace text place = EndsWord Is 125 text place × OpensNothing Is text place
IsWrong Is AfterQuote text place = EndsWord Is 34 text place × OpensNothing Is text place
IsWrong Is BadCodePoint text place = Unwritten Is text place × OpensNothing Is text place
IsWrong Is f text place = ⊥
