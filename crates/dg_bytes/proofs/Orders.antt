-- The order of texts.
use Rattle.std.specs.Prelude.{◌≡◌, ℕ, zero, nat_eq, ◌+◌, ◌*◌, ◌<◌, ◌≤◌, List, [], ◌∷◌, ◌++◌, length, min, suc, refl, take, drop, get_or}
use Rattle.std.specs.Ordering.{is_eq, ordering_then}
use Rattle.dg_bytes.specs.Fronts.{as_number}
use Rattle.std.specs.Ordering.{nat_cmp}
use Rattle.std.specs.Cmp.{nat_cmp_is}
use Rattle.std.specs.Cmp.Lexicographic.{pointwise, slice_cmp, texts_ties}
use Rattle.std.proofs.Common.{Less, Equal, Greater, arith, sym, ap, ap₂, ◌∙◌, inl, inr}
use Rattle.std.proofs.lemmas.Bool.{cases_lt}
use Rattle.std.proofs.lemmas.List.{length-take-le, take-append-drop}

-- where one of two texts has no bytes, their order is that of their lengths, with as many more on both sides
pub by_lengths : (xs ys : List ℕ) (m n k : ℕ) → m ≡ k + length xs → n ≡ k + length ys → min (length xs) (length ys) ≡ 0 → slice_cmp nat_cmp xs ys ≡ nat_cmp m n
by_lengths [] [] m n k a b z = nat_cmp_is m n Equal (omega arith)
by_lengths [] (y ∷ ys) m n k a b z = nat_cmp_is m n Less (omega arith)
by_lengths (x ∷ xs) [] m n k a b z = nat_cmp_is m n Greater (omega arith)
by_lengths (x ∷ xs) (y ∷ ys) m n k a b z = absurd (omega arith)

-- ---- bytes as one number

-- each is below 256
abbrev pub AreBytes : List ℕ → Type 0
AreBytes xs = (i : ℕ) → get_or xs i 0 < 256

behind : (x : ℕ) (xs : List ℕ) → AreBytes (x ∷ xs) → AreBytes xs
behind x xs h = λ i. h (suc i)

-- what is less stays less with as many bytes more
stays_less : (xs ys : List ℕ) (m n : ℕ) → length xs ≡ length ys → AreBytes xs → AreBytes ys → m < n → as_number m xs < as_number n ys
stays_less [] [] m n l p q lt = lt
stays_less [] (y ∷ ys) m n l p q lt = absurd (omega arith)
stays_less (x ∷ xs) [] m n l p q lt = absurd (omega arith)
stays_less (x ∷ xs) (y ∷ ys) m n l p q lt =
    let small = p 0 in
    stays_less xs ys (m * 256 + x) (n * 256 + y) (omega arith) (behind x xs p) (behind y ys q) (omega arith)

-- the order of texts is that of the numbers of as many bytes in front, and where these are the same that of what stands behind
in_order : (xs ys rs ss : List ℕ) (n : ℕ) → length xs ≡ length ys → AreBytes xs → AreBytes ys → slice_cmp nat_cmp (xs ++ rs) (ys ++ ss) ≡ ordering_then (nat_cmp (as_number n xs) (as_number n ys)) (slice_cmp nat_cmp rs ss)
in_order [] [] rs ss n l p q = ap (λ o. ordering_then o (slice_cmp nat_cmp rs ss)) (nat_cmp_is n n Equal refl)
in_order [] (y ∷ ys) rs ss n l p q = absurd (omega arith)
in_order (x ∷ xs) [] rs ss n l p q = absurd (omega arith)
in_order (x ∷ xs) (y ∷ ys) rs ss n l p q =
    let small = p 0 in
    let few = q 0 in
    let long : length xs ≡ length ys = omega arith in
    elim (cases_lt x y) [
      | inl less ↦
          let first = sym (nat_cmp_is x y Less less) in
          let all = sym (nat_cmp_is (as_number (n * 256 + x) xs) (as_number (n * 256 + y) ys) Less (stays_less xs ys (n * 256 + x) (n * 256 + y) long (behind x xs p) (behind y ys q) (omega arith))) in
          rw first (rw all refl)
      | inr more ↦ elim (cases_lt y x) [
        | inl greater ↦
            let first = sym (nat_cmp_is x y Greater greater) in
            let all = sym (nat_cmp_is (as_number (n * 256 + x) xs) (as_number (n * 256 + y) ys) Greater (stays_less ys xs (n * 256 + y) (n * 256 + x) (sym long) (behind y ys q) (behind x xs p) (omega arith))) in
            rw first (rw all refl)
        | inr less ↦
            let same : x ≡ y = omega arith in
            let first = sym (nat_cmp_is x y Equal same) in
            rw first (rw (sym same) (in_order xs ys rs ss (n * 256 + x) long (behind x xs p) (behind y ys q)))
      ]
    ]

take_bytes : (n : ℕ) (xs : List ℕ) → AreBytes xs → AreBytes (take n xs)
take_bytes zero xs h i = omega arith
take_bytes (suc n) [] h i = omega arith
take_bytes (suc n) (x ∷ xs) h zero = h 0
take_bytes (suc n) (x ∷ xs) h (suc i) = take_bytes n xs (behind x xs h) i

-- eight bytes in front of texts that have as many decide before the others
fronts_first : (xs ys : List ℕ) → 8 ≤ length xs → 8 ≤ length ys → AreBytes xs → AreBytes ys → slice_cmp nat_cmp xs ys ≡ ordering_then (nat_cmp (as_number 0 (take 8 xs)) (as_number 0 (take 8 ys))) (slice_cmp nat_cmp (drop 8 xs) (drop 8 ys))
fronts_first xs ys l k p q =
    let one = length-take-le 8 xs l in
    let other = length-take-le 8 ys k in
    sym (ap₂ (slice_cmp nat_cmp) (take-append-drop 8 xs) (take-append-drop 8 ys))
    ∙ in_order (take 8 xs) (take 8 ys) (drop 8 xs) (drop 8 ys) 0 (omega (arith, one, other)) (take_bytes 8 xs p) (take_bytes 8 ys q)

-- where these differ
pub by_fronts : (xs ys : List ℕ) → 8 ≤ length xs → 8 ≤ length ys → AreBytes xs → AreBytes ys → (as_number 0 (take 8 xs) ≡ as_number 0 (take 8 ys) → ⊥) → slice_cmp nat_cmp xs ys ≡ nat_cmp (as_number 0 (take 8 xs)) (as_number 0 (take 8 ys))
by_fronts xs ys l k p q differ =
    let all = fronts_first xs ys l k p q in
    elim (cases_lt (as_number 0 (take 8 xs)) (as_number 0 (take 8 ys))) [
      | inl less ↦
          let is = sym (nat_cmp_is (as_number 0 (take 8 xs)) (as_number 0 (take 8 ys)) Less less) in
          all ∙ ap (λ o. ordering_then o (slice_cmp nat_cmp (drop 8 xs) (drop 8 ys))) is ∙ sym is
      | inr more ↦ elim (cases_lt (as_number 0 (take 8 ys)) (as_number 0 (take 8 xs))) [
        | inl greater ↦
            let is = sym (nat_cmp_is (as_number 0 (take 8 xs)) (as_number 0 (take 8 ys)) Greater greater) in
            all ∙ ap (λ o. ordering_then o (slice_cmp nat_cmp (drop 8 xs) (drop 8 ys))) is ∙ sym is
        | inr less ↦ absurd (differ (omega arith))
      ]
    ]

-- where these are the same
pub behind_fronts : (xs ys : List ℕ) → 8 ≤ length xs → 8 ≤ length ys → AreBytes xs → AreBytes ys → as_number 0 (take 8 xs) ≡ as_number 0 (take 8 ys) → slice_cmp nat_cmp xs ys ≡ slice_cmp nat_cmp (drop 8 xs) (drop 8 ys)
behind_fronts xs ys l k p q same =
    fronts_first xs ys l k p q
    ∙ ap (λ o. ordering_then o (slice_cmp nat_cmp (drop 8 xs) (drop 8 ys))) (sym (nat_cmp_is (as_number 0 (take 8 xs)) (as_number 0 (take 8 ys)) Equal same))

pub same_behind_fronts : (xs ys : List ℕ) → 8 ≤ length xs → 8 ≤ length ys → AreBytes xs → AreBytes ys → as_number 0 (take 8 xs) ≡ as_number 0 (take 8 ys) → pointwise nat_eq xs ys ≡ pointwise nat_eq (drop 8 xs) (drop 8 ys)
same_behind_fronts xs ys l k p q same =
    texts_ties xs ys ∙ ap is_eq (behind_fronts xs ys l k p q same) ∙ sym (texts_ties (drop 8 xs) (drop 8 ys))
