-- Whole numbers, and the texts that spell them.
use Rattle.std.specs.Prelude.{ℕ, ◌+◌, ◌*◌, ◌^◌, ℤ, pos, neg_ℤ, List, [], ◌∷◌, reverse, Bool, ◌&&◌, ◌||◌, Option, None, Some, if◌then◌else◌, ◌==◌, nat_lt, nat_le}
use Rattle.std.specs.Char.{digit_value, to_ascii_lowercase}
use Rattle.std.specs.Fmt.{signed_decimal}

-- space, tab, newline, vertical tab, form feed or carriage return
abbrev pub is_space : ℕ → Bool
is_space b = b == 32 || (nat_le 9 b && nat_le b 13)

-- a text without the spaces that it begins with, and without those round it
abbrev pub drop_spaces : List ℕ → List ℕ
drop_spaces [] = []
drop_spaces (b ∷ bs) = if is_space b then drop_spaces bs else b ∷ bs

abbrev pub trimmed : List ℕ → List ℕ
trimmed text = reverse (drop_spaces (reverse (drop_spaces text)))

-- The number that digits of a base write behind a number; none where a byte is no such digit.
abbrev pub digits_behind : ℕ → ℕ → List ℕ → Option ℕ
digits_behind base n [] = Some n
digits_behind base n (b ∷ bs) = if nat_lt (digit_value b) base then digits_behind base (base * n + digit_value b) bs else None

-- the number that the digits of a base write, of which there is one at least
abbrev pub digits_in : ℕ → List ℕ → Option ℕ
digits_in base [] = None
digits_in base (b ∷ bs) = digits_behind base 0 (b ∷ bs)

-- behind a zero: `x`, `o` and `b` begin other bases
abbrev pub behind_zero : List ℕ → Option ℕ
behind_zero [] = Some 0
behind_zero (b ∷ bs) =
    if to_ascii_lowercase b == 120 then digits_in 16 bs else
    if to_ascii_lowercase b == 111 then digits_in 8 bs else
    if to_ascii_lowercase b == 98 then digits_in 2 bs else digits_in 8 (b ∷ bs)

-- a number without a sign
abbrev pub magnitude_of : List ℕ → Option ℕ
magnitude_of [] = None
magnitude_of (b ∷ bs) = if b == 48 then behind_zero bs else digits_in 10 (b ∷ bs)

-- the numbers from -2^63 to 2^63 - 1
abbrev pub positive : Option ℕ → Option ℤ
positive None = None
positive (Some n) = if nat_lt n (2 ^ 63) then Some (pos n) else None

abbrev pub negative : Option ℕ → Option ℤ
negative None = None
negative (Some n) = if nat_le n (2 ^ 63) then Some (neg_ℤ (pos n)) else None

abbrev pub signed_of : List ℕ → Option ℤ
signed_of [] = None
signed_of (b ∷ bs) =
    if b == 45 then negative (magnitude_of bs) else
    if b == 43 then positive (magnitude_of bs) else positive (magnitude_of (b ∷ bs))

-- The whole number that a text is, if it is one.
unfoldable pub number_of : List ℕ → Option ℤ
number_of text = signed_of (trimmed text)

-- The text of a number.
abbrev pub decimal_text : ℤ → List ℕ
decimal_text = signed_decimal
