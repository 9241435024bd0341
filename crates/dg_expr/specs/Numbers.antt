-- How the code's answers on numbers are seen by the definitions.
use Rattle.std.specs.Prelude.{◌≡◌, ◌≢◌, ◌⊎◌, ℕ, List, ◌^◌, ◌≤◌, ◌<◌, Option, None, Some, false}
use Rattle.dg_expr.specs.Number.{digits_in, is_space, magnitude_of}

-- none, or more than 64 bits hold
abbrev pub IsPast : Option ℕ → Type 0
IsPast None = Unit {0}
IsPast (Some n) = 2 ^ 64 ≤ n

-- a number of at most 64 bits
abbrev pub Reads : Option ℕ → Option ℕ → Type 0
Reads o None = IsPast o
Reads o (Some n) = o ≡ Some n

-- decimal digits alone, with no zeros before them, that write a number which 63 bits hold
abbrev pub IsPlain : List ℕ → ℕ → Type 0
IsPlain text n = (magnitude_of text ≡ Some n) × (digits_in 10 text ≡ Some n) × (n < 2 ^ 63)

-- a byte with which no number begins, nor the blanks before one: no blank, sign or digit
abbrev pub BeginsNone : ℕ → Type 0
BeginsNone b = (is_space b ≡ false) × (b ≢ 45) × (b ≢ 43) × ((b < 48) ⊎ (57 < b))
