-- A field that is read is the one that is written, and what is written is read again.
use Rattle.std.proofs.Common.{◌≡◌, ℕ, zero, suc, ◌/◌, ◌<◌, ◌≤◌, Bool, true, false, cond, ◌&&◌, ◌⊎◌, List, [], ◌∷◌, length, map, get_or, Ok, Err, refl, sym, ap, subst, ◌∙◌, arith, min, rules, inl, inr}
use Rattle.std.specs.Prelude.{Result, nat_lt, nat_le, nat_eq, ◌==◌, ◌||◌, not, codes, decimal, ok_or, slice_index}
use Rattle.std.specs.List.{AllByRecursion, list_all}
use Rattle.std.specs.Result.{result_ok}
use Rattle.std.specs.Char.{is_ascii_digit}
use Rattle.std.specs.Str.Parse.{digits_value}
use Rattle.std.specs.Cmp.Lexicographic.{bytes_decides}
use Rattle.std.proofs.lemmas.Bool.{and_parts, eqb-true, leb-true, ltb-true, lt-ltb, le-leb, eq-eqb, ne_eqb}
use Rattle.std.proofs.lemmas.Str.Parse.{IsNumeralModel, numerals_by_value}
use Rattle.std.proofs.lemmas.Fmt.{decimal-digits_value, digits_decimal, digits_value-decimal, decimal_nonempty, first_decimal, decimal_digit}
use Rattle.std.proofs.lemmas.List.{length-map}
use Rattle.hex.specs.Hex.{encode_lower, encode_with, lower_digits, decode_of, IsBytes}
use Rattle.hex.specs.declared.error.FromHexError.{FromHexError}
use Rattle.hex.proofs.HexLemmas.{decode_of-encode_lower, decode_of-ok}
use Rattle.dg_transcript.specs.declared.cause.Cause.{Cause}
use Rattle.dg_transcript.specs.declared.cause.Cause.TheVariants as cause
use Rattle.dg_transcript.specs.declared.code.ErrorCode.{ErrorCode}
use Rattle.dg_transcript.specs.declared.code.ErrorCode.TheVariants.{NotFound, NotPermitted, BrokenPipe, Other}
use Rattle.dg_bytes.specs.Same.{same_bytes}
use Rattle.dg_transcript.specs.Text.{code_number, word_field}
use Rattle.dg_transcript.specs.Limits.{BytesFit, WordsFit}
use Rattle.dg_bytes.specs.Chain.{◌>>=◌}
use Rattle.dg_transcript.specs.Fields.{is_numeral, number_of, within, code_of, code_at, spelled_by, hex_of, bytes_of, word_of, each_word, words_of}
use Rattle.dg_transcript.proofs.GoodLines.{bind_ok, ok_is, guard_ok}

-- ---- tests of bytes

pub same_is : (xs ys : List ℕ) → same_bytes xs ys ≡ true → xs ≡ ys
same_is xs ys h = (bytes_decides xs ys).0 h

pub is_same : (xs : List ℕ) → same_bytes xs xs ≡ true
is_same xs = (bytes_decides xs xs).1 refl

-- ---- numbers

own : IsNumeralModel (λ ds. list_all is_ascii_digit ds ≡ true) (digits_value 10)
own = numerals_by_value _ (search rules)

first_by : (a b : Bool) (n : ℕ) → a ≡ true → (not a || b) ≡ true → (b ≡ true → n ≡ 1) → n ≡ 1
first_by true b n e test done = done test
first_by false b n e test done = absurd cc

first_ok : (f : List ℕ) → (not (slice_index f 0 == 48) || (length f == 1)) ≡ true → get_or f 0 0 ≡ 48 → length f ≡ 1
first_ok f test zero_first = first_by (slice_index f 0 == 48) (length f == 1) (length f) (eq-eqb (slice_index f 0) 48 zero_first) test (eqb-true (length f) 1)

pub number_takes : (f : List ℕ) (n : ℕ) → number_of f ≡ Ok n → n < 10000000 → f ≡ decimal n
unfolding number_of
number_takes f n h small =
    let a = guard_ok (is_numeral f) (Ok (min (digits_value 10 f) 10000000)) cause.Field n h in
    let value : min (digits_value 10 f) 10000000 ≡ n = ok_is (min (digits_value 10 f) 10000000) n a.1 in
    let exact : digits_value 10 f ≡ n = omega (arith, value) in
    let parts = and_parts (list_all is_ascii_digit f && nat_lt 0 (length f)) (not (slice_index f 0 == 48) || (length f == 1)) a.0 in
    let front = and_parts (list_all is_ascii_digit f) (nat_lt 0 (length f)) parts.0 in
    let spelled : decimal (digits_value 10 f) ≡ f = decimal-digits_value own f front.0 (ltb-true 0 (length f) front.1) (first_ok f parts.1) (omega (arith, exact)) in
    sym spelled ∙ ap decimal exact

not_zero : (c n : ℕ) → 48 < c → (not (c == 48) || (n == 1)) ≡ true
not_zero c n above = let other : (c == 48) ≡ false = ne_eqb c 48 (λ e. omega arith) in rw other refl

number_first : (n : ℕ) → n < 10000000 → (not (slice_index (decimal n) 0 == 48) || (length (decimal n) == 1)) ≡ true
number_first zero small = rw (decimal_digit zero (omega arith)) refl
number_first (suc n) small = not_zero (slice_index (decimal (suc n)) 0) (length (decimal (suc n))) (first_decimal (suc n) (omega arith) (omega arith))

pub number_again : (n : ℕ) → n < 10000000 → number_of (decimal n) ≡ Ok n
unfolding number_of
number_again n small =
    let digits : list_all is_ascii_digit (decimal n) ≡ true = digits_decimal own n (omega arith) in
    let some : nat_lt 0 (length (decimal n)) ≡ true = lt-ltb 0 (length (decimal n)) (decimal_nonempty n (omega arith)) in
    let first = number_first n small in
    let value : digits_value 10 (decimal n) ≡ n = digits_value-decimal own n (omega arith) in
    let least : min n 10000000 ≡ n = omega arith in
    rw (digits, some, first, value, least) refl

pub within_takes : (low high : ℕ) (f : List ℕ) (n : ℕ) → high < 10000000 → within low high f ≡ Ok n → (f ≡ decimal n) × (low ≤ n) × (n ≤ high)
unfolding within
within_takes low high f n small h =
    let a = bind_ok (number_of f) (λ m. cond (nat_le low m && nat_le m high) (Ok m) (Err cause.Field)) n h in
    let b = guard_ok (nat_le low a.0 && nat_le a.0 high) (Ok a.0) cause.Field n a.2 in
    let same : a.0 ≡ n = ok_is a.0 n b.1 in
    let parts = and_parts (nat_le low a.0) (nat_le a.0 high) b.0 in
    let from_low = leb-true low a.0 parts.0 in
    let to_high = leb-true a.0 high parts.1 in
    (number_takes f a.0 a.1 (omega arith) ∙ ap decimal same, omega (arith, same, from_low), omega (arith, same, to_high))

pub within_again : (low high n : ℕ) → high < 10000000 → low ≤ n → n ≤ high → within low high (decimal n) ≡ Ok n
unfolding within
within_again low high n small from_low to_high = rw (number_again n (omega arith), le-leb low n from_low, le-leb n high to_high) refl

code_back : (n : ℕ) → 1 ≤ n → n ≤ 4 → code_number (code_at n) ≡ n
code_back zero a b = absurd (omega arith)
code_back (suc zero) a b = refl
code_back (suc (suc zero)) a b = refl
code_back (suc (suc (suc zero))) a b = refl
code_back (suc (suc (suc (suc zero)))) a b = refl
code_back (suc (suc (suc (suc (suc n))))) a b = absurd (omega arith)

pub code_takes : (f : List ℕ) (c : ErrorCode) → code_of f ≡ Ok c → f ≡ decimal (code_number c)
unfolding code_of
code_takes f c h =
    let a = bind_ok (within 1 4 f) (λ n. Ok (code_at n)) c h in
    let b = within_takes 1 4 f a.0 (omega arith) a.1 in
    b.0 ∙ ap decimal (sym (code_back a.0 b.1 b.2)) ∙ ap (λ (d : ErrorCode). decimal (code_number d)) (ok_is (code_at a.0) c a.2)

pub code_again : (c : ErrorCode) → code_of (decimal (code_number c)) ≡ Ok c
unfolding code_of
code_again NotFound = rw (within_again 1 4 1 (omega arith) (omega arith) (omega arith)) refl
code_again NotPermitted = rw (within_again 1 4 2 (omega arith) (omega arith) (omega arith)) refl
code_again BrokenPipe = rw (within_again 1 4 3 (omega arith) (omega arith) (omega arith)) refl
code_again Other = rw (within_again 1 4 4 (omega arith) (omega arith) (omega arith)) refl

-- ---- bytes

decoded_ok : (r : Result (List ℕ) FromHexError) (bs : List ℕ) → ok_or (result_ok r) cause.Field ≡ Ok bs → r ≡ Ok bs
decoded_ok (Ok xs) bs h = cc
decoded_ok (Err e) bs h = absurd cc

pub hex_takes : (f bs : List ℕ) → hex_of f ≡ Ok bs → (f ≡ encode_lower bs) × (0 < length bs) × IsBytes bs
unfolding hex_of
hex_takes f bs h =
    let a = bind_ok (ok_or (result_ok (decode_of f)) cause.Field) (spelled_by f) bs h in
    let b = guard_ok (same_bytes (encode_lower a.0) f && nat_lt 0 (length a.0)) (Ok a.0) cause.Field bs a.2 in
    let same : a.0 ≡ bs = ok_is a.0 bs b.1 in
    let parts = and_parts (same_bytes (encode_lower a.0) f) (nat_lt 0 (length a.0)) b.0 in
    let bytes : IsBytes a.0 = (decode_of-ok f a.0 (decoded_ok (decode_of f) a.0 a.1)).3 in (
      sym (same_is (encode_lower a.0) f parts.0) ∙ ap encode_lower same,
      subst (λ (xs : List ℕ). 0 < length xs) same (ltb-true 0 (length a.0) parts.1),
      subst IsBytes same bytes,
    )

pub hex_again : (bs : List ℕ) → IsBytes bs → 0 < length bs → hex_of (encode_lower bs) ≡ Ok bs
unfolding hex_of
hex_again bs bytes some = rw (decode_of-encode_lower bs bytes, is_same (encode_lower bs), lt-ltb 0 (length bs) some) refl

pub bytes_takes : (most : ℕ) (f bs : List ℕ) → bytes_of most f ≡ Ok bs → (f ≡ encode_lower bs) × BytesFit most bs
unfolding bytes_of
bytes_takes most f bs h =
    let a = bind_ok (hex_of f) (λ xs. cond (nat_le (length xs) most) (Ok xs) (Err cause.Field)) bs h in
    let b = guard_ok (nat_le (length a.0) most) (Ok a.0) cause.Field bs a.2 in
    let same : a.0 ≡ bs = ok_is a.0 bs b.1 in
    let t = hex_takes f a.0 a.1 in
    (t.0 ∙ ap encode_lower same, subst (BytesFit most) same (t.1, leb-true (length a.0) most b.0, t.2))

pub bytes_again : (most : ℕ) (bs : List ℕ) → BytesFit most bs → bytes_of most (encode_lower bs) ≡ Ok bs
unfolding bytes_of
bytes_again most bs fits = rw (hex_again bs fits.2 fits.0, le-leb (length bs) most fits.1) refl

-- ---- words

empty_bytes : IsBytes []
empty_bytes i = omega arith

word_of_hex : (bs : List ℕ) → 0 < length bs → word_field bs ≡ encode_lower bs
word_of_hex [] some = absurd (omega arith)
word_of_hex (b ∷ bs) some = refl

choice_ok : (b : Bool) (x : List ℕ) (r : Result (List ℕ) Cause) (y : List ℕ) → cond b (Ok x) r ≡ Ok y → ((b ≡ true) × (x ≡ y)) ⊎ ((b ≡ false) × (r ≡ Ok y))
choice_ok true x r y h = inl (refl, ok_is x y h)
choice_ok false x r y h = inr (refl, h)

pub word_takes : (f w : List ℕ) → word_of f ≡ Ok w → (f ≡ word_field w) × IsBytes w
unfolding word_of
word_takes f w h =
    elim (choice_ok (same_bytes f (codes "-")) [] (hex_of f) w h) [
      | inl a ↦ (same_is f (codes "-") a.0 ∙ ap word_field a.1, subst IsBytes a.1 empty_bytes)
      | inr a ↦ let t = hex_takes f w a.1 in (t.0 ∙ sym (word_of_hex w t.1), t.2)
    ]

and_no : (b : Bool) → (b && false) ≡ false
and_no true = refl
and_no false = refl

pub word_again : (w : List ℕ) → IsBytes w → word_of (word_field w) ≡ Ok w
unfolding word_of encode_with
word_again [] bytes = refl
word_again (b ∷ bs) bytes =
    let other : same_bytes (encode_lower (b ∷ bs)) (codes "-") ≡ false = and_no (nat_eq (slice_index lower_digits (b / 16)) 45) in
    rw other (hex_again (b ∷ bs) bytes (omega arith))

pub each_takes : (fs ws : List (List ℕ)) → each_word fs ≡ Ok ws → (fs ≡ map word_field ws) × AllByRecursion IsBytes ws
unfolding each_word
each_takes [] ws h = let same : [] ≡ ws = ok_is [] ws h in subst (λ (v : List (List ℕ)). ([] ≡ map word_field v) × AllByRecursion IsBytes v) same (refl, tt)
each_takes (f ∷ fs) ws h =
    let a = bind_ok (word_of f) (λ word. each_word fs >>= λ words. Ok (word ∷ words)) ws h in
    let b = bind_ok (each_word fs) (λ words. Ok (a.0 ∷ words)) ws a.2 in
    let first = word_takes f a.0 a.1 in
    let rest = each_takes fs b.0 b.1 in
    let same : a.0 ∷ b.0 ≡ ws = ok_is (a.0 ∷ b.0) ws b.2 in
    subst (λ (v : List (List ℕ)). (f ∷ fs ≡ map word_field v) × AllByRecursion IsBytes v) same
    (ap (λ x. x ∷ fs) first.0 ∙ ap (λ xs. word_field a.0 ∷ xs) rest.0, (first.1, rest.1))

pub each_again : (ws : List (List ℕ)) → AllByRecursion IsBytes ws → each_word (map word_field ws) ≡ Ok ws
unfolding each_word
each_again [] all = refl
each_again (w ∷ ws) all = rw (word_again w all.0, each_again ws all.1) refl

same_length : (fs ws : List (List ℕ)) → fs ≡ map word_field ws → length fs ≡ length ws
same_length fs ws e = ap length e ∙ length-map ws word_field

pub words_take : (fs ws : List (List ℕ)) → words_of fs ≡ Ok ws → (fs ≡ map word_field ws) × WordsFit ws
unfolding words_of
words_take fs ws h =
    let a = guard_ok (nat_lt 0 (length fs) && nat_le (length fs) 64) (each_word fs) cause.Field ws h in
    let parts = and_parts (nat_lt 0 (length fs)) (nat_le (length fs) 64) a.0 in
    let t = each_takes fs ws a.1 in
    let same = same_length fs ws t.0 in
    let low = ltb-true 0 (length fs) parts.0 in
    let high = leb-true (length fs) 64 parts.1 in
    (t.0, (omega (arith, same, low), omega (arith, same, high), t.1))

pub words_again : (ws : List (List ℕ)) → WordsFit ws → words_of (map word_field ws) ≡ Ok ws
unfolding words_of
words_again ws fits =
    let same : length (map word_field ws) ≡ length ws = length-map ws word_field in
    rw (same, lt-ltb 0 (length ws) fits.0, le-leb (length ws) 64 fits.1, each_again ws fits.2) refl
