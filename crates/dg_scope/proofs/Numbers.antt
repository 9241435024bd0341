-- Numbers and the names that they stand for.
use Rattle.std.proofs.Common.{◌≡◌, ℕ, zero, suc, ◌+◌, ◌*◌, ◌/◌, ◌%◌, ◌^◌, ◌<◌, ◌≤◌, Bool, true, false, List, [], ◌∷◌, ◌++◌, T, leb→le, le_of_lt, length, length-append, length-take-le, take, pow-suc, refl, ap, ap₂, ◌∙◌, sym, subst, arith}
use Rattle.std.specs.Ordering.{nat_cmp, is_eq, eq_by_cmp}
use Rattle.std.specs.Cmp.{tied_itself, nat_cmp_total}
use Rattle.std.specs.Cmp.Lexicographic.{nat_list_cmp_total}
use Rattle.std.specs.FinMap.{nat_cmp-IsAntisymmetric}
use Rattle.dg_scope.specs.Table.{name_within, name_of, is_short}
use Rattle.dg_scope.proofs.Trees.{by_bytes, tied, same_name}

-- more room than a number needs changes nothing
same_within : (r s n : ℕ) → n ≤ r → n ≤ s → name_within r n ≡ name_within s n
same_within zero zero zero a b = refl
same_within zero (suc s) zero a b = refl
same_within (suc r) zero zero a b = refl
same_within (suc r) (suc s) zero a b = refl
same_within zero s (suc n) a b = absurd (omega arith)
same_within (suc r) zero (suc n) a b = absurd (omega arith)
same_within (suc r) (suc s) (suc n) a b =
    ap (λ (l : List ℕ). l ++ n % 256 ∷ []) (same_within r s (n / 256) (omega arith) (omega arith))

counted : (p n b : ℕ) → b < 256 → p ≡ n * 256 + b → name_of (suc p) ≡ name_of n ++ b ∷ []
counted p n b small is =
    let high : p / 256 ≡ n = omega arith in
    let low : p % 256 ≡ b = omega arith in
    ap₂ (λ (l : List ℕ) (c : ℕ). l ++ c ∷ []) (same_within p (p / 256) (p / 256) (omega arith) (omega arith) ∙ ap name_of high) low

-- the number of a name with one byte more
pub name-behind : (n b m : ℕ) → b < 256 → m ≡ n * 256 + b + 1 → name_of m ≡ name_of n ++ b ∷ []
name-behind n b m small is =
    let e : m ≡ suc (n * 256 + b) = omega arith in
    ap name_of e ∙ counted (n * 256 + b) n b small refl

-- the number of a name
number_from : ℕ → List ℕ → ℕ
number_from n [] = n
number_from n (b ∷ bs) = number_from (n * 256 + b + 1) bs

number_from-behind : (n : ℕ) (bs : List ℕ) (b : ℕ) → number_from n (bs ++ b ∷ []) ≡ number_from n bs * 256 + b + 1
unfolding number_from
number_from-behind n [] b = refl
number_from-behind n (c ∷ bs) b = number_from-behind (n * 256 + c + 1) bs b

back : (r n : ℕ) → n ≤ r → number_from 0 (name_within r n) ≡ n
unfolding number_from
back zero zero h = refl
back zero (suc n) h = absurd (omega arith)
back (suc r) zero h = refl
back (suc r) (suc n) h =
    let whole : n / 256 * 256 + n % 256 + 1 ≡ suc n = omega arith in
    number_from-behind 0 (name_within r (n / 256)) (n % 256)
    ∙ ap (λ x. x * 256 + n % 256 + 1) (back r (n / 256) (omega arith))
    ∙ whole

same_number : (m n : ℕ) → name_of m ≡ name_of n → m ≡ n
same_number m n e = sym (back m m (omega arith)) ∙ ap (number_from 0) e ∙ back n n (omega arith)

both_ways : (a b : Bool) → (a ≡ true → b ≡ true) → (b ≡ true → a ≡ true) → a ≡ b
both_ways true b f g = sym (f refl)
both_ways false true f g = g refl
both_ways false false f g = refl

-- numbers tie as their names do
pub alike : (m n : ℕ) → is_eq (nat_cmp m n) ≡ eq_by_cmp by_bytes (name_of m) (name_of n)
alike m n =
    both_ways _ _
    (λ e. subst (λ x. eq_by_cmp by_bytes (name_of m) (name_of x) ≡ true) (nat_cmp-IsAntisymmetric m n (tied (nat_cmp m n) e)) (ap is_eq (tied_itself nat_list_cmp_total (name_of m))))
    (λ e. subst (λ x. is_eq (nat_cmp m x) ≡ true) (same_number m n (same_name (name_of m) (name_of n) e)) (ap is_eq (tied_itself nat_cmp_total m)))

bounded : (r n k : ℕ) → n ≤ r → length (name_within r n) ≤ k → n + 2 ≤ 2 * 256 ^ k
bounded zero zero zero h l = omega arith
bounded (suc r) zero zero h l = omega arith
bounded zero zero (suc k) h l =
    let more = bounded zero zero k h (omega arith) in
    omega (arith, pow-suc 256 k)
bounded (suc r) zero (suc k) h l =
    let more = bounded (suc r) zero k h (omega arith) in
    omega (arith, pow-suc 256 k)
bounded zero (suc n) k h l = absurd (omega arith)
bounded (suc r) (suc n) zero h l = absurd (omega (arith, length-append (name_within r (n / 256)) (n % 256 ∷ [])))
bounded (suc r) (suc n) (suc k) h l =
    let less : length (name_within r (n / 256)) ≤ k = omega (arith, length-append (name_within r (n / 256)) (n % 256 ∷ [])) in
    let more = bounded r (n / 256) k (omega arith) less in
    omega (arith, pow-suc 256 k)

-- the number of what stands before a byte of a short name has room for it
pub has_room : (n i : ℕ) (name : List ℕ) → name_of n ≡ take i name → i < length name → is_short name ≡ true → n < 2 ^ 49
has_room n i name e below short =
    let few : length name ≤ 7 = leb→le (length name) 7 (subst T (sym short) tt) in
    let before : length (name_of n) ≤ 6 = subst (λ l. length l ≤ 6) (sym e) (omega (arith, length-take-le i name (le_of_lt below))) in
    let most = bounded n n 6 (omega arith) before in
    omega arith
