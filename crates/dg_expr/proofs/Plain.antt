-- Texts of decimal digits alone, and texts that no number begins.
use Rattle.std.proofs.Common.{◌≡◌, ◌≢◌, ℕ, ◌+◌, ◌-◌, ◌*◌, ◌^◌, ◌≤◌, ◌<◌, ◌⊎◌, pos, neg_ℤ, List, [], ◌∷◌, ◌++◌, reverse, length, get_or, take, drop, true, false, Some, None, refl, sym, ◌∙◌, arith}
use Rattle.std.specs.Prelude.{nat_lt, nat_le, ◌==◌, if◌then◌else◌}
use Rattle.std.specs.Char.{digit_value}
use Rattle.std.proofs.lemmas.Bool.Decides.{nat_tests}
use Rattle.std.proofs.lemmas.List.{at_drop_all, take_rest, reverse-append, reverse-reverse}
use Rattle.std.proofs.Math.Nat.{pow-le-pow_right, zero-lt-suc}
use Rattle.std.proofs.lemmas.Str.Parse.{digit_from_value}
use Rattle.dg_expr.specs.Numbers.{BeginsNone, IsPlain}
use Rattle.dg_expr.specs.Number.{digits_behind, digits_in, drop_spaces, is_space, magnitude_of, number_of, signed_of, trimmed}

abbrev IsDigit : ℕ → Type 0
IsDigit b = (48 ≤ b) × (b ≤ 57)

abbrev NoSpaces : List ℕ → Type 0
NoSpaces [] = Unit {0}
NoSpaces (b ∷ bs) = (is_space b ≡ false) × NoSpaces bs

digit_from_test : (b : ℕ) → nat_lt (digit_value b) 10 ≡ true → IsDigit b
digit_from_test b e = let d : digit_value b < 10 = grind (arith, nat_tests) in let r = digit_from_value b d in omega arith

digit_no_space : (b : ℕ) → IsDigit b → is_space b ≡ false
digit_no_space b h = grind (arith, nat_tests)

-- ---- what stands in a text of digits

first_digit : (n m b : ℕ) (bs : List ℕ) → digits_behind 10 n (b ∷ bs) ≡ Some m → IsDigit b
first_digit n m b bs e =
    elim (nat_lt (digit_value b) 10) as (λ t. nat_lt (digit_value b) 10 ≡ t → (if t then digits_behind 10 (10 * n + digit_value b) bs else None) ≡ Some m → IsDigit b)
    [ true ↦ λ is h. digit_from_test b is | false ↦ λ is h. absurd (cc) ] refl e

other_digits : (n m b : ℕ) (bs : List ℕ) → digits_behind 10 n (b ∷ bs) ≡ Some m → digits_behind 10 (10 * n + digit_value b) bs ≡ Some m
other_digits n m b bs e =
    elim (nat_lt (digit_value b) 10) as (λ t. (if t then digits_behind 10 (10 * n + digit_value b) bs else None) ≡ Some m → digits_behind 10 (10 * n + digit_value b) bs ≡ Some m)
    [ true ↦ λ h. h | false ↦ λ h. absurd (cc) ] e

no_spaces : (n m : ℕ) (bs : List ℕ) → digits_behind 10 n bs ≡ Some m → NoSpaces bs
no_spaces n m [] e = tt
no_spaces n m (b ∷ bs) e = (
  digit_no_space b (first_digit n m b bs e),
  no_spaces (10 * n + digit_value b) m bs (other_digits n m b bs e),
)

-- ---- a text with no spaces is trimmed

none_dropped : (bs : List ℕ) → NoSpaces bs → drop_spaces bs ≡ bs
none_dropped [] h = refl
none_dropped (b ∷ bs) h = let e : is_space b ≡ false = h.0 in rw e refl

reverse-cons : (b : ℕ) (bs : List ℕ) → reverse (b ∷ bs) ≡ reverse bs ++ (b ∷ [])
reverse-cons b bs = reverse-append (b ∷ []) bs

none_behind : (bs : List ℕ) (b : ℕ) → NoSpaces bs → is_space b ≡ false → NoSpaces (bs ++ (b ∷ []))
none_behind [] b h e = (e, tt)
none_behind (x ∷ xs) b h e = (h.0, none_behind xs b h.1 e)

none_reversed : (bs : List ℕ) → NoSpaces bs → NoSpaces (reverse bs)
none_reversed [] h = h
none_reversed (b ∷ bs) h = rw (reverse-cons b bs) (none_behind (reverse bs) b (none_reversed bs h.1) h.0)

trimmed_same : (bs : List ℕ) → NoSpaces bs → trimmed bs ≡ bs
trimmed_same bs h = rw (none_dropped bs h, none_dropped (reverse bs) (none_reversed bs h), reverse-reverse bs) refl

-- ---- the numbers that such texts are

signed_digits : (text : List ℕ) (n : ℕ) → magnitude_of text ≡ Some n → digits_in 10 text ≡ Some n → n < 2 ^ 63 → signed_of text ≡ Some (pos n)
signed_digits [] n m e h = absurd (cc)
signed_digits (b ∷ bs) n m e h =
    let d : IsDigit b = first_digit 0 n b bs e in
    let minus : (b == 45) ≡ false = grind (arith, nat_tests) in
    let plus : (b == 43) ≡ false = grind (arith, nat_tests) in
    let fits : nat_lt n (2 ^ 63) ≡ true = grind (arith, nat_tests) in
    rw (minus, plus, m, fits) refl

digits_have_no_spaces : (text : List ℕ) (n : ℕ) → digits_in 10 text ≡ Some n → NoSpaces text
digits_have_no_spaces [] n e = tt
digits_have_no_spaces (b ∷ bs) n e = no_spaces 0 n (b ∷ bs) e

pub plain_digits : (text : List ℕ) (n : ℕ) → IsPlain text n → number_of text ≡ Some (pos n)
unfolding number_of
plain_digits text n h = rw (trimmed_same text (digits_have_no_spaces text n h.1)) (signed_digits text n h.0 h.1 h.2)

pub plain_negative : (text : List ℕ) (n : ℕ) → get_or text 0 0 ≡ 45 → IsPlain (take (length text - 1) (drop 1 text)) n → number_of text ≡ Some (neg_ℤ (pos n))
unfolding number_of
plain_negative [] n s h = absurd (omega arith)
plain_negative (b ∷ bs) n s h =
    let rest : take (length (b ∷ bs) - 1) bs ≡ bs = take_rest (b ∷ bs) 1 in
    let g = rw rest at h in
    let fits : nat_le n (2 ^ 63) ≡ true = grind (arith, nat_tests) in
    rw (s, trimmed_same (45 ∷ bs) (refl, digits_have_no_spaces bs n g.1), g.0, fits) refl

-- ---- texts that no number begins

kept_end : (xs : List ℕ) (b : ℕ) → is_space b ≡ false → (ys : List ℕ) × (drop_spaces (xs ++ (b ∷ [])) ≡ ys ++ (b ∷ []))
kept_end [] b e = ([], rw e refl)
kept_end (x ∷ xs) b e =
    elim (is_space x) as (λ t. (ys : List ℕ) × ((if t then drop_spaces (xs ++ (b ∷ [])) else x ∷ (xs ++ (b ∷ []))) ≡ ys ++ (b ∷ [])))
    [ true ↦ kept_end xs b e | false ↦ (x ∷ xs, refl) ]

kept_first : (b : ℕ) (bs : List ℕ) → is_space b ≡ false → (ys : List ℕ) × (trimmed (b ∷ bs) ≡ b ∷ ys)
kept_first b bs e =
    let k = kept_end (reverse bs) b e in
    (reverse k.0, rw (e, reverse-cons b bs, k.1) (reverse-append k.0 (b ∷ [])))

no_digits : (b : ℕ) (bs : List ℕ) → ((b < 48) ⊎ (57 < b)) → digits_in 10 (b ∷ bs) ≡ None
no_digits b bs h =
    elim (nat_lt (digit_value b) 10) as (λ t. nat_lt (digit_value b) 10 ≡ t → (if t then digits_behind 10 (10 * 0 + digit_value b) bs else None) ≡ None)
    [ true ↦ λ is. let d : IsDigit b = digit_from_test b is in absurd (omega arith) | false ↦ λ is. refl ] refl

no_sign : (b : ℕ) (bs : List ℕ) → b ≢ 45 → b ≢ 43 → ((b < 48) ⊎ (57 < b)) → signed_of (b ∷ bs) ≡ None
no_sign b bs minus plus other =
    let m : (b == 45) ≡ false = grind (arith, nat_tests) in
    let p : (b == 43) ≡ false = grind (arith, nat_tests) in
    let z : (b == 48) ≡ false = grind (arith, nat_tests) in
    rw (m, p, z, no_digits b bs other) refl

pub no_number_in_none : (text : List ℕ) → length text < 1 → number_of text ≡ None
unfolding number_of
no_number_in_none [] h = refl
no_number_in_none (b ∷ bs) h = absurd (omega arith)

pub no_number : (text : List ℕ) → BeginsNone (get_or text 0 0) → number_of text ≡ None
unfolding number_of
no_number [] h = refl
no_number (b ∷ bs) h = let k = kept_first b bs h.0 in rw k.1 (no_sign b k.0 h.1 h.2 h.3)

pub ruleset no_numbers = (no_number_in_none, no_number)

-- ---- one more digit

pub few_below : (value count : ℕ) → value < 10 ^ count → count ≤ 18 → value < 10 ^ 18
few_below value count h few = let p : 10 ^ count ≤ 10 ^ 18 = pow-le-pow_right {n = 10} (zero-lt-suc 9) few in omega arith

pub all_read : (value i : ℕ) (text : List ℕ) → digits_behind 10 value (drop i text) ≡ digits_behind 10 0 text → length text ≤ i → false ≡ (length text == 0)
    → digits_in 10 text ≡ Some value
all_read value i [] e within some = absurd (cc)
all_read value i (b ∷ bs) e within some = sym e ∙ at_drop_all (digits_behind 10 value) (b ∷ bs) i within
