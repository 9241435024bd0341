-- Hexadecimal without capital digits is the lower-case text of what it stands for.
use Rattle.std.proofs.Common.{◌≡◌, ℕ, zero, suc, ◌+◌, ◌*◌, ◌/◌, ◌%◌, ◌<◌, Bool, true, cond, ◌&&◌, List, [], ◌∷◌, Option, Some, None, Ok, Err, refl, sym, ap, ◌∙◌, arith, inl, inr}
use Rattle.std.specs.Prelude.{Result, nat_lt, nat_eq, ◌==◌, slice_index}
use Rattle.std.specs.List.{list_all}
use Rattle.std.specs.Result.{result_unwrap_or}
use Rattle.std.proofs.lemmas.Bool.{and_parts, cases_lt, eqb-true}
use Rattle.hex.specs.Hex.{◌>>=◌, encode_lower, encode_with, lower_digits, decode_of, decode_pairs, hex_digit_value, digit_or_error, value_at, pair_value}
use Rattle.hex.specs.declared.error.FromHexError.{FromHexError}
use Rattle.hex.proofs.HexLemmas.{decode_of-even, decode_of-ok}
use Rattle.dg_bytes.specs.Same.{same_bytes}
use Rattle.dg_transcript.specs.Small.{is_small}

-- ---- one digit

-- what the table of lower-case digits has at a place
abbrev stands_at : ℕ → ℕ
stands_at v = cond (nat_lt v 10) (v + 48) (v + 87)

abbrev all_stand : ℕ → Bool
all_stand zero = true
all_stand (suc n) = (slice_index lower_digits n == stands_at n) && all_stand n

stand_at : (n v : ℕ) → all_stand n ≡ true → v < n → slice_index lower_digits v ≡ stands_at v
stand_at zero v h lt = absurd (omega arith)
stand_at (suc n) v h lt =
    let parts = and_parts (slice_index lower_digits n == stands_at n) (all_stand n) h in
    elim (cases_lt v n) [
      | inl below ↦ stand_at n v parts.1 below
      | inr top ↦ let e : v ≡ n = omega arith in rw e (eqb-true (slice_index lower_digits n) (stands_at n) parts.0)
    ]

value_below : (c v : ℕ) → hex_digit_value c ≡ Some v → v < 16
value_below c v h = grind arith

stands_small : (c v : ℕ) → hex_digit_value c ≡ Some v → nat_eq (stands_at v) c ≡ is_small c
stands_small c v h = grind arith

digit_again : (c v : ℕ) → hex_digit_value c ≡ Some v → nat_eq (slice_index lower_digits v) c ≡ is_small c
digit_again c v h = rw (stand_at 16 v refl (value_below c v h)) (stands_small c v h)

digit_read : (c i : ℕ) (o : Option ℕ) (v : ℕ) → digit_or_error c i o ≡ Ok v → o ≡ Some v
digit_read c i (Some w) v h = ap Some (ap (λ (r : Result ℕ FromHexError). result_unwrap_or r 0) h)
digit_read c i None v h = absurd cc

-- ---- a text

hex_bind : {A B : Type 0} (r : Result A FromHexError) (f : A → Result B FromHexError) (y : B)
    → (r >>= f) ≡ Ok y → (x : A) × (r ≡ Ok x) × (f x ≡ Ok y)
hex_bind (Ok x) f y h = (x, refl, h)
hex_bind (Err e) f y h = absurd cc

same_two : (b x y h l : ℕ) (bs rest : List ℕ) → x < 16 → y < 16 → x * 16 + y ≡ b
    → nat_eq (slice_index lower_digits x) h ≡ is_small h → nat_eq (slice_index lower_digits y) l ≡ is_small l
    → same_bytes (encode_lower bs) rest ≡ list_all is_small rest
    → same_bytes (encode_lower (b ∷ bs)) (h ∷ l ∷ rest) ≡ list_all is_small (h ∷ l ∷ rest)
unfolding encode_with
same_two b x y h l bs rest fx fy is first second same =
    let high : b / 16 ≡ x = omega arith in
    let low : b % 16 ≡ y = omega arith in
    rw (high, low, first, second, same) refl

pairs_again : (i : ℕ) (s bytes : List ℕ) → decode_pairs i s ≡ Ok bytes → same_bytes (encode_lower bytes) s ≡ list_all is_small s
unfolding decode_pairs encode_with
pairs_again i [] bytes h =
    let e : [] ≡ bytes = ap (λ (r : Result (List ℕ) FromHexError). result_unwrap_or r []) h in
    rw (← e) refl
pairs_again i (a ∷ []) bytes h = absurd cc
pairs_again i (a ∷ b ∷ rest) bytes h =
    let p0 = hex_bind (pair_value a b i) _ bytes h in
    let p1 = hex_bind (value_at a i) _ p0.0 p0.1 in
    let p2 = hex_bind (value_at b (i + 1)) _ p0.0 p1.2 in
    let p3 = hex_bind (decode_pairs (i + 2) rest) _ bytes p0.2 in
    let same = pairs_again (i + 2) rest p3.0 p3.1 in
    let e : p0.0 ∷ p3.0 ≡ bytes = ap (λ (r : Result (List ℕ) FromHexError). result_unwrap_or r []) p3.2 in
    let byte : p1.0 * 16 + p2.0 ≡ p0.0 = ap (λ (r : Result ℕ FromHexError). result_unwrap_or r 0) p2.2 in
    let high = digit_read a i (hex_digit_value a) p1.0 p1.1 in
    let low = digit_read b (i + 1) (hex_digit_value b) p2.0 p2.1 in
    rw (← e) (same_two p0.0 p1.0 p2.0 a b p3.0 rest (value_below a p1.0 high) (value_below b p2.0 low) byte
    (digit_again a p1.0 high) (digit_again b p2.0 low) same)

-- what a text stands for is spelled so again where it has no capital digit
pub spelled_again : (s bytes : List ℕ) → decode_of s ≡ Ok bytes → same_bytes (encode_lower bytes) s ≡ list_all is_small s
spelled_again s bytes h =
    let even = (decode_of-ok s bytes h).0 in
    pairs_again 0 s bytes (sym (decode_of-even s even) ∙ h)
