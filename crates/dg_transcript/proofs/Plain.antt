-- Fields without a space or a newline, and the lines that are made of them.
use Rattle.std.proofs.Common.{◌≡◌, ◌≢◌, ℕ, zero, suc, ◌-◌, ◌/◌, ◌%◌, ◌^◌, ◌<◌, Bool, true, false, ◌&&◌, List, [], ◌∷◌, ◌++◌, length, map, get_or, flat_map, rules, None, refl, sym, ap, ◌∙◌, arith, inr}
use Rattle.std.specs.Prelude.{nat_le, ◌==◌, not, decimal, slice_index, All}
use Rattle.std.specs.List.{AllByRecursion, list_all, slice_split, join_with_byte}
use Rattle.std.specs.Char.{is_ascii_digit}
use Rattle.std.specs.Str.Parse.{digits_value}
use Rattle.std.proofs.lemmas.Bool.{and_parts, eqb-false, ne_eqb, leb-true}
use Rattle.std.proofs.lemmas.List.{length-append}
use Rattle.std.proofs.lemmas.List.Splits.{slice_split_at, slice_split_none}
use Rattle.std.proofs.lemmas.List.Sums.{AllPass-from_list_all}
use Rattle.std.proofs.lemmas.List.Folds.{list_all-append}
use Rattle.std.proofs.lemmas.Str.Parse.{IsNumeralModel, numerals_by_value}
use Rattle.std.proofs.lemmas.Fmt.{digits_decimal}
use Rattle.bstr.specs.Text.{lines_of}
use Rattle.bstr.proofs.lemmas.LineLemmas.{lines-append, lines-one, lines-nil}
use Rattle.hex.specs.Hex.{encode_lower, encode_with, lower_digits, IsBytes, hex_digit_value}
use Rattle.hex.proofs.HexLemmas.{IsDigits-lower_digits}
use Rattle.dg_transcript.specs.Text.{word_field}
use Rattle.dg_transcript.specs.Fields.{is_space}

abbrev pub is_plain : ℕ → Bool
is_plain c = not (is_space c) && not (c == 10)

abbrev pub are_plain : List ℕ → Bool
are_plain xs = list_all is_plain xs

plain_from : (c : ℕ) → c ≢ 32 → c ≢ 10 → is_plain c ≡ true
plain_from c a b = let x : (c == 32) ≡ false = ne_eqb c 32 a in let y : (c == 10) ≡ false = ne_eqb c 10 b in rw (x, y) refl

not_false : (b : Bool) → not b ≡ true → b ≡ false
not_false true h = absurd cc
not_false false h = refl

-- ---- what is plain

digits_plain : (ds : List ℕ) → list_all is_ascii_digit ds ≡ true → are_plain ds ≡ true
digits_plain [] h = refl
digits_plain (c ∷ cs) h =
    let parts = and_parts (is_ascii_digit c) (list_all is_ascii_digit cs) h in
    let bounds = and_parts (nat_le 48 c) (nat_le c 57) parts.0 in
    let low = leb-true 48 c bounds.0 in
    let here : is_plain c ≡ true = plain_from c (λ e. omega arith) (λ e. omega arith) in
    rw (here, digits_plain cs parts.1) refl

own : IsNumeralModel (λ ds. list_all is_ascii_digit ds ≡ true) (digits_value 10)
own = numerals_by_value _ (search rules)

pub decimal_plain : (n : ℕ) → n < 2 ^ 64 → are_plain (decimal n) ≡ true
decimal_plain n small = digits_plain (decimal n) (digits_decimal own n small)

digit_not : (d c : ℕ) → d < 16 → hex_digit_value c ≡ None → slice_index lower_digits d ≢ c
digit_not d c small none e = let is = IsDigits-lower_digits d small in let same = ap hex_digit_value e in absurd cc

digit_plain : (d : ℕ) → d < 16 → is_plain (slice_index lower_digits d) ≡ true
digit_plain d small = plain_from (slice_index lower_digits d) (digit_not d 32 small refl) (digit_not d 10 small refl)

pub hex_plain : (bs : List ℕ) → IsBytes bs → are_plain (encode_lower bs) ≡ true
unfolding encode_with
hex_plain [] bytes = refl
hex_plain (b ∷ bs) bytes =
    let small : b < 256 = bytes 0 in
    let high = digit_plain (b / 16) (omega arith) in
    let low = digit_plain (b % 16) (omega arith) in
    rw (high, low, hex_plain bs (λ i. bytes (suc i))) refl

pub word_plain : (w : List ℕ) → IsBytes w → are_plain (word_field w) ≡ true
word_plain [] bytes = refl
word_plain (b ∷ bs) bytes = hex_plain (b ∷ bs) bytes

-- ---- fields that are cut apart again

abbrev pub AllPlain : List (List ℕ) → Type 0
AllPlain = AllByRecursion (λ f. are_plain f ≡ true)

pub words_plain : (ws : List (List ℕ)) → AllByRecursion IsBytes ws → AllPlain (map word_field ws)
words_plain [] all = tt
words_plain (w ∷ ws) all = (word_plain w all.0, words_plain ws all.1)

no_space : (f : List ℕ) → are_plain f ≡ true → All (λ x. is_space x ≡ false) f
no_space f h k d lt = not_false (is_space (get_or f k d)) (and_parts (not (is_space (get_or f k d))) (not (get_or f k d == 10)) (AllPass-from_list_all is_plain f h k d lt)).0

pub cut_again : (f : List ℕ) (fs : List (List ℕ)) → AllPlain (f ∷ fs) → slice_split is_space (join_with_byte 32 (f ∷ fs)) ≡ f ∷ fs
cut_again f [] all = slice_split_none is_space f (no_space f all.0)
cut_again f (g ∷ fs) all =
    slice_split_at is_space f 32 (join_with_byte 32 (g ∷ fs)) (no_space f all.0) refl ∙ ap (λ (xs : List (List ℕ)). f ∷ xs) (cut_again g fs all.1)

-- ---- lines that are cut apart again

-- a body without a newline
abbrev pub has_no_feed : List ℕ → Bool
has_no_feed xs = list_all (λ c. not (c == 10)) xs

plain_no_feed : (f : List ℕ) → are_plain f ≡ true → has_no_feed f ≡ true
plain_no_feed [] h = refl
plain_no_feed (c ∷ cs) h =
    let parts = and_parts (is_plain c) (are_plain cs) h in
    let here = and_parts (not (is_space c)) (not (c == 10)) parts.0 in
    rw (here.1, plain_no_feed cs parts.1) refl

pub joined_no_feed : (fs : List (List ℕ)) → AllPlain fs → has_no_feed (join_with_byte 32 fs) ≡ true
joined_no_feed [] all = refl
joined_no_feed (f ∷ []) all = plain_no_feed f all.0
joined_no_feed (f ∷ g ∷ fs) all =
    list_all-append (λ c. not (c == 10)) f (32 ∷ join_with_byte 32 (g ∷ fs)) ∙ rw (plain_no_feed f all.0, joined_no_feed (g ∷ fs) all.1) refl

last_of : (xs : List ℕ) → get_or (xs ++ 10 ∷ []) (length xs) 0 ≡ 10
last_of [] = refl
last_of (x ∷ xs) = last_of xs

inner : (xs : List ℕ) (k : ℕ) → has_no_feed xs ≡ true → k < length xs → get_or (xs ++ 10 ∷ []) k 0 ≢ 10
inner [] k h lt = absurd (omega arith)
inner (x ∷ xs) zero h lt = let parts = and_parts (not (x == 10)) (has_no_feed xs) h in eqb-false x 10 (not_false (x == 10) parts.0)
inner (x ∷ xs) (suc k) h lt = inner xs k (and_parts (not (x == 10)) (has_no_feed xs) h).1 (omega arith)

line_alone : (xs : List ℕ) → has_no_feed xs ≡ true → lines_of (xs ++ 10 ∷ []) ≡ (xs ++ 10 ∷ []) ∷ []
line_alone xs h =
    let len = length-append xs (10 ∷ []) in
    lines-one (xs ++ 10 ∷ []) (omega (arith, len)) (λ k lt. inner xs k h (omega (arith, len)))

pub cut_lines : {A : Type 0} (text : A → List ℕ) (front : A → List ℕ) → ((a : A) → text a ≡ front a ++ 10 ∷ []) → (vs : List A) → AllByRecursion (λ a. has_no_feed (front a) ≡ true) vs
    → lines_of (flat_map text vs) ≡ map text vs
cut_lines text front whole [] all = lines-nil
cut_lines text front whole (a ∷ vs) all =
    let xs = front a in
    let len = length-append xs (10 ∷ []) in
    let place : length (xs ++ 10 ∷ []) - 1 ≡ length xs = omega (arith, len) in
    let ends : slice_index (xs ++ 10 ∷ []) (length (xs ++ 10 ∷ []) - 1) ≡ 10 = ap (slice_index (xs ++ 10 ∷ [])) place ∙ last_of xs in
    ap (λ (t : List ℕ). lines_of (t ++ flat_map text vs)) (whole a)
    ∙ lines-append (length (xs ++ 10 ∷ [])) (xs ++ 10 ∷ []) (flat_map text vs) (omega arith) (inr ends)
    ∙ ap (λ (t : List (List ℕ)). t ++ lines_of (flat_map text vs)) (line_alone xs all.0)
    ∙ ap (λ (t : List (List ℕ)). (xs ++ 10 ∷ []) ∷ t) (cut_lines text front whole vs all.1)
    ∙ ap (λ (t : List ℕ). t ∷ map text vs) (sym (whole a))
