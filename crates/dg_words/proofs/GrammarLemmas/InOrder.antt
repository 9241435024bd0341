-- Bytes in their order among others.
use Rattle.std.specs.Prelude.{◌≡◌, ℕ, ◌≤◌, List, [], ◌∷◌, length, refl, Bool, true, false, cond}
use Rattle.std.specs.List.{filter}
use Rattle.std.proofs.Common.{◌∙◌, ap, sym, arith, subst}
use Rattle.dg_words.specs.Grammar.Ends.{InOrder, Open, is_end}

pub in_same : (ks : List ℕ) → InOrder ks ks
in_same [] = InOrder.none
in_same (k ∷ ks) = InOrder.here k (in_same ks)

pub in_both : {js ks ls : List ℕ} → InOrder js ks → InOrder ks ls → InOrder js ls
in_both InOrder.none i = InOrder.none
in_both h (InOrder.past b i) = InOrder.past b (in_both h i)
in_both (InOrder.past k h) (InOrder.here j i) = InOrder.past j (in_both h i)
in_both (InOrder.here k h) (InOrder.here j i) = InOrder.here j (in_both h i)

-- of a test's bytes
in_tested : (p : ℕ → Bool) (k : ℕ) (x : Bool) (ks ls : List ℕ) → InOrder ks ls → InOrder (cond x (k ∷ ks) ks) (cond x (k ∷ ls) ls)
in_tested p k true ks ls i = InOrder.here k i
in_tested p k false ks ls i = i

in_past : (b : ℕ) (x : Bool) (ks ls : List ℕ) → InOrder ks ls → InOrder ks (cond x (b ∷ ls) ls)
in_past b true ks ls i = InOrder.past b i
in_past b false ks ls i = i

in_filter : (p : ℕ → Bool) {ks ls : List ℕ} → InOrder ks ls → InOrder (filter p ks) (filter p ls)
in_filter p InOrder.none = InOrder.none
in_filter p (InOrder.past {ks = ks} {t = t} b i) = in_past b (p b) (filter p ks) (filter p t) (in_filter p i)
in_filter p (InOrder.here {ks = ks} {t = t} k i) = in_tested p k (p k) (filter p ks) (filter p t) (in_filter p i)

filter_on : (p : ℕ → Bool) (b : ℕ) (x : Bool) (ks : List ℕ) → p b ≡ x → filter p ks ≡ ks → filter p (cond x (b ∷ ks) ks) ≡ cond x (b ∷ ks) ks
filter_on p b true ks h e = ap (λ y. cond y (b ∷ filter p ks) (filter p ks)) h ∙ ap (λ t. b ∷ t) e
filter_on p b false ks h e = e

filter_twice : (p : ℕ → Bool) (t : List ℕ) → filter p (filter p t) ≡ filter p t
filter_twice p [] = refl
filter_twice p (b ∷ bs) = filter_on p b (p b) (filter p bs) refl (filter_twice p bs)

in_length : {ks ls : List ℕ} → InOrder ks ls → length ks ≤ length ls
in_length InOrder.none = omega arith
in_length (InOrder.past b i) = omega (arith, in_length i)
in_length (InOrder.here k i) = omega (arith, in_length i)

in_equal : {ks ls : List ℕ} → InOrder ks ls → length ls ≤ length ks → ks ≡ ls
in_equal (InOrder.none {t = []}) h = refl
in_equal (InOrder.none {t = b ∷ t}) h = absurd (omega arith)
in_equal (InOrder.past b i) h = absurd (omega (arith, in_length i))
in_equal (InOrder.here k i) h = ap (λ t. k ∷ t) (in_equal i (omega arith))

pub in_nothing : {k : ℕ} {ks : List ℕ} → InOrder (k ∷ ks) [] → ⊥
in_nothing i = elim i [ ]

-- what is open is open in one way
pub same_open : (Is : List ℕ → Type 0) (text ks ls : List ℕ) → Open Is text ks → Open Is text ls → ks ≡ ls
same_open Is text ks ls x y = in_equal (one ks ls x y) (in_length (one ls ks y x))
  where
    one : (js is : List ℕ) → Open Is text js → Open Is text is → InOrder js is
    one js is v w =
        let i = in_filter is_end (v.needed w.closing w.is_such) in
        let j = subst (λ t. InOrder t (filter is_end w.closing)) (ap (filter is_end) (sym v.just) ∙ filter_twice is_end v.closing ∙ v.just) i in
        subst (λ t. InOrder js t) w.just j
