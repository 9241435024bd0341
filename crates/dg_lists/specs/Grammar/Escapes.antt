-- The bytes that a backslash writes, with those after it.
use Rattle.std.specs.Prelude.{◌≡◌, ◌≢◌, ℕ, ◌+◌, ◌-◌, ◌*◌, ◌≤◌, List, [], ◌∷◌, ◌++◌, length, Bool, true, false, ◌&&◌, if◌then◌else◌, ◌==◌, nat_lt}
use Rattle.std.specs.Char.{digit_value, encode_utf8}
use lib.Utf8.{scalar}
use Rattle.dg_lists.specs.declared.kinds.Escape.{Escape}
use Rattle.dg_lists.specs.declared.kinds.Escape.TheVariants.{Octal, Byte, Short, Long}
use Rattle.dg_lists.specs.Transitions.{base_of, digits_of, most_of, letter_of, is_space}

-- every byte is so
abbrev pub each : (ℕ → Bool) → List ℕ → Bool
each so [] = true
each so (b ∷ bs) = so b && each so bs

-- the value of digits that follow a number of this value
abbrev pub value_from : ℕ → ℕ → List ℕ → ℕ
value_from base v [] = v
value_from base v (d ∷ ds) = value_from base (base * v + digit_value d) ds

-- Digits that may follow a number of this value: of its base, at most so many, and the value stays in range.
abbrev pub MayFollow : Escape → ℕ → ℕ → List ℕ → Type 0
MayFollow e most v ds = (each (λ d. nat_lt (digit_value d) (base_of e)) ds ≡ true) × (length ds ≤ most) × (value_from (base_of e) v ds ≤ most_of e)

-- as many of them as there are before the text after
pub record Digits (e : Escape) (most v : ℕ) (ds after : List ℕ) : Type 0 where
  pub fit : MayFollow e most v ds
  pub longest : (b : ℕ) (rest : List ℕ) → after ≡ b ∷ rest → MayFollow e most v (ds ++ b ∷ []) → ⊥

-- the bytes that a number writes: one byte, or a character of Unicode
abbrev pub Writes : Escape → ℕ → List ℕ → Type 0
Writes Octal v w = w ≡ v ∷ []
Writes Byte v w = w ≡ v ∷ []
Writes Short v w = (scalar v ≡ true) × (w ≡ encode_utf8 v)
Writes Long v w = (scalar v ≡ true) × (w ≡ encode_utf8 v)

-- without digits it is its letter
abbrev pub NumberWrites : Escape → List ℕ → List ℕ → Type 0
NumberWrites e [] w = w ≡ letter_of e ∷ []
NumberWrites e (d ∷ ds) w = Writes e (value_from (base_of e) 0 (d ∷ ds)) w

abbrev pub is_octal : ℕ → Bool
is_octal b = if nat_lt b 48 then false else nat_lt b 56

-- an octal digit, `x`, `u` or `U`
abbrev pub begins_number : ℕ → Bool
begins_number b = if b == 120 then true else if b == 117 then true else if b == 85 then true else is_octal b

-- `a b f n r t v`; any other byte stands for itself
abbrev pub stands_for : ℕ → ℕ
stands_for b =
    if b == 97 then 7 else if b == 98 then 8 else if b == 102 then 12 else if b == 110 then 10 else
    if b == 114 then 13 else if b == 116 then 9 else if b == 118 then 11 else b

-- The bytes behind a backslash, before the text after, and what they write. A newline is none of them.
pub data Escaped (after : List ℕ) : List ℕ → List ℕ → Type 0 where
  byte : (b : ℕ) → b ≢ 10 → begins_number b ≡ false → Escaped after (b ∷ []) (stands_for b ∷ [])
  number : {ds w : List ℕ} (e : Escape) → e ≢ Octal → Digits e (digits_of e) 0 ds after → NumberWrites e ds w → Escaped after (letter_of e ∷ ds) w
  octal : {ds : List ℕ} (b : ℕ) → is_octal b ≡ true → Digits Octal 2 (b - 48) ds after → Escaped after (b ∷ ds) (value_from 8 (b - 48) ds ∷ [])

-- The spaces and tabs behind a backslash and a newline: as many as there are before the text after.
abbrev pub begins_with_space : List ℕ → Bool
begins_with_space [] = false
begins_with_space (b ∷ bs) = is_space b

abbrev pub Spaces : List ℕ → List ℕ → Type 0
Spaces g after = (each is_space g ≡ true) × (begins_with_space after ≡ false)
