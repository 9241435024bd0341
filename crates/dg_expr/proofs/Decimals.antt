-- Whole numbers, and the texts that operators give them.
use Rattle.std.proofs.Common.{◌≡◌, ℕ, zero, suc, ◌+◌, ◌*◌, ◌^◌, ◌<◌, ◌≤◌, ℤ, pos, negsuc, List, [], ◌∷◌, ◌++◌, reverse, length, get_or, Bool, true, false, Some, refl, sym, ap, ◌∙◌, arith, subst}
use Rattle.std.specs.Prelude.{nat_lt, nat_le, ◌==◌}
use Rattle.std.specs.Char.{digit_value}
use Rattle.std.specs.Fmt.{decimal}
use Rattle.std.specs.Str.Parse.{AllDigits, digits_value, digits_value_after}
use Rattle.std.proofs.lemmas.Fmt.{decimal_digit, decimal_is_IsNumeral, first_decimal}
use Rattle.std.proofs.lemmas.Str.Parse.{digit_from_value}
use Rattle.std.proofs.lemmas.Grind.{reverse_onto}
use Rattle.std.proofs.lemmas.List.{reverse-reverse}
use Rattle.std.proofs.lemmas.Bool.{lt-ltb, ne_eqb}
use lib.Signed.{mag}
use Rattle.dg_expr.specs.Number.{number_of, decimal_text, is_space, drop_spaces, trimmed, digits_behind, magnitude_of, signed_of, positive, negative}
use Rattle.dg_expr.specs.Truth.{truth_text}

-- truth reads as the numbers 1 and 0
pub true_decimal : (b : Bool) → b ≡ true → truth_text b ≡ decimal_text (pos 1)
true_decimal b e = rw e (sym (decimal_digit 1 (omega arith)))

pub false_decimal : (b : Bool) → b ≡ false → truth_text b ≡ decimal_text (pos 0)
false_decimal b e = rw e (sym (decimal_digit 0 (omega arith)))

-- no byte is a space
abbrev NoSpaces : List ℕ → Type 0
NoSpaces [] = Unit {0}
NoSpaces (b ∷ bs) = (is_space b ≡ false) × NoSpaces bs

less : (a b : ℕ) → a < b → nat_lt a b ≡ true
less a b h = lt-ltb a b h

at_most : (a b : ℕ) → a ≤ b → nat_le a b ≡ true
at_most a b h = grind arith

differs : (a b : ℕ) → b < a → (a == b) ≡ false
differs a b h = ne_eqb a b (λ e. omega (arith, e))

not_space : (b : ℕ) → 33 ≤ b → is_space b ≡ false
not_space b h = grind arith

dropped-none : (bs : List ℕ) → NoSpaces bs → drop_spaces bs ≡ bs
dropped-none [] n = refl
dropped-none (b ∷ bs) n = rw n.0 refl

none-append : (a b : List ℕ) → NoSpaces a → NoSpaces b → NoSpaces (a ++ b)
none-append [] b n m = m
none-append (x ∷ a) b n m = (n.0, none-append a b n.1 m)

none-reverse : (bs : List ℕ) → NoSpaces bs → NoSpaces (reverse bs)
none-reverse [] n = tt
none-reverse (b ∷ bs) n = subst NoSpaces (sym (reverse_onto bs b [])) (none-append (reverse bs) (b ∷ []) (none-reverse bs n.1) (n.0, tt))

trimmed-none : (bs : List ℕ) → NoSpaces bs → trimmed bs ≡ bs
trimmed-none bs n =
    ap (λ x. reverse (drop_spaces (reverse x))) (dropped-none bs n)
    ∙ ap reverse (dropped-none (reverse bs) (none-reverse bs n))
    ∙ reverse-reverse bs

digits-none : (ds : List ℕ) → AllDigits 10 ds → NoSpaces ds
digits-none [] d = tt
digits-none (c ∷ cs) d = (not_space c (omega (arith, digit_from_value c d.0)), digits-none cs d.1)

turned : (n d : ℕ) → 10 * n + d ≡ n * 10 + d
turned n d = omega arith

-- the digits' number
digits_behind-value : (n : ℕ) (ds : List ℕ) → AllDigits 10 ds → digits_behind 10 n ds ≡ Some (digits_value_after 10 n ds)
digits_behind-value n [] d = refl
digits_behind-value n (c ∷ cs) d = rw (less (digit_value c) 10 d.0, turned n (digit_value c)) (digits_behind-value (n * 10 + digit_value c) cs d.1)

magnitude_of-digits : (n : ℕ) (ds : List ℕ) → AllDigits 10 ds → 0 < length ds → 48 < get_or ds 0 0 → digits_value 10 ds ≡ n → magnitude_of ds ≡ Some n
magnitude_of-digits n [] d some lead e = absurd (omega arith)
magnitude_of-digits n (c ∷ cs) d some lead e = rw (differs c 48 lead) (digits_behind-value 0 (c ∷ cs) d ∙ ap Some e)

magnitude_of-decimal : (n : ℕ) → n < 2 ^ 64 → magnitude_of (decimal n) ≡ Some n
magnitude_of-decimal zero h = rw (decimal_digit 0 (omega arith)) refl
magnitude_of-decimal (suc n) h =
    let k = decimal_is_IsNumeral (suc n) h in
    magnitude_of-digits (suc n) (decimal (suc n)) k.0.1 k.0.0 (first_decimal (suc n) (omega arith) h) k.1

signed_of-digits : (ds : List ℕ) → AllDigits 10 ds → 0 < length ds → signed_of ds ≡ positive (magnitude_of ds)
signed_of-digits [] d some = absurd (omega arith)
signed_of-digits (c ∷ cs) d some =
    let r = digit_from_value c d.0 in
    rw (differs c 45 (omega (arith, r)), differs c 43 (omega (arith, r))) refl

-- A number is read of its text.
pub number_of-decimal : (z : ℤ) → mag z < 2 ^ 63 → number_of (decimal_text z) ≡ Some z
unfolding number_of
number_of-decimal (pos n) h =
    let k = decimal_is_IsNumeral n (omega arith) in
    ap signed_of (trimmed-none (decimal n) (digits-none (decimal n) k.0.1))
    ∙ signed_of-digits (decimal n) k.0.1 k.0.0
    ∙ ap positive (magnitude_of-decimal n (omega arith))
    ∙ rw (less n (2 ^ 63) (omega arith)) refl
number_of-decimal (negsuc n) h =
    let k = decimal_is_IsNumeral (suc n) (omega arith) in
    ap signed_of (trimmed-none (45 ∷ decimal (suc n)) (refl, digits-none (decimal (suc n)) k.0.1))
    ∙ ap negative (magnitude_of-decimal (suc n) (omega arith))
    ∙ rw (at_most (suc n) (2 ^ 63) (omega arith)) refl
