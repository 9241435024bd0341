-- Brackets that close alike.
use Rattle.std.proofs.Common.{◌≡◌, ◌≤◌, ◌<◌, length, ℕ, Bool, true, IsTrue, List, [], ◌∷◌, Some, sym, ap, ◌∙◌, arith}
use Rattle.std.proofs.lemmas.Bool.Decides.{nat_tests}
use Rattle.dg_glob.specs.Items.{items, past_close, after_first, closes_alike, after_item, after_escaped, IsSteady}

-- an item of such a bracket is followed by what follows the first `]`
abbrev Alike : ℕ → List ℕ → List ℕ → Type 0
Alike c q p = closes_alike (items p) ≡ true → after_first (items p) c ≡ Some q → q ≡ past_close p

alike_one : (c x : ℕ) (q : List ℕ) → Alike c q (x ∷ [])
alike_one c x q = grind (arith, nat_tests)

alike_two : (c x y : ℕ) (q : List ℕ) → Alike c q (y ∷ []) → Alike c q (x ∷ y ∷ [])
alike_two c x y q h = grind (arith, nat_tests)

alike_more : (c x y z : ℕ) (p q : List ℕ) → Alike c q p → Alike c q (y ∷ z ∷ p) → Alike c q (x ∷ y ∷ z ∷ p)
alike_more c x y z p q h g = grind (arith, nat_tests)

pub alike : (c : ℕ) (q p : List ℕ) → Alike c q p
alike c q [] = λ a e. cc
alike c q (x ∷ []) = alike_one c x q
alike c q (x ∷ y ∷ []) = alike_two c x y q (alike c q (y ∷ []))
alike c q (x ∷ y ∷ z ∷ p) = alike_more c x y z p q (alike c q p) (alike c q (y ∷ z ∷ p))

-- a pattern that begins with such a bracket is steady
pub steady_bracket : (p rest : List ℕ) (b : Bool) → p ≡ 91 ∷ rest → b ≡ closes_alike (items rest) → IsTrue b → IsSteady p
steady_bracket p rest b is closes holds c d q r at_c at_d =
    let shut : closes_alike (items rest) ≡ true = sym closes ∙ holds in
    let e : after_item (91 ∷ rest) c ≡ Some q = ap (λ s. after_item s c) (sym is) ∙ at_c in
    let f : after_item (91 ∷ rest) d ≡ Some r = ap (λ s. after_item s d) (sym is) ∙ at_d in
    alike c q rest shut e ∙ sym (alike d r rest shut f)

-- what is left of a pattern is shorter
past_close_more : (x : ℕ) (p : List ℕ) → length (past_close p) ≤ length p → length (past_close (x ∷ p)) ≤ length p
past_close_more x p h = grind (arith, nat_tests)

pub past_close_shorter : (p : List ℕ) → length (past_close p) ≤ length p
past_close_shorter [] = omega arith
past_close_shorter (x ∷ p) = let h = past_close_more x p (past_close_shorter p) in omega arith

abbrev Shorter : ℕ → List ℕ → Type 0
Shorter c p = (q : List ℕ) → after_first (items p) c ≡ Some q → length q ≤ length p

shorter_one : (c x : ℕ) → Shorter c (x ∷ [])
shorter_one c x q e = grind (arith, nat_tests)

shorter_two : (c x y : ℕ) → Shorter c (y ∷ []) → (q : List ℕ) → after_first (items (x ∷ y ∷ [])) c ≡ Some q → length q ≤ length (x ∷ y ∷ [])
shorter_two c x y h q e = let s = past_close_shorter (y ∷ []) in let g = h q in grind (arith, nat_tests)

shorter_more : (c x y z : ℕ) (p : List ℕ) → Shorter c p → Shorter c (y ∷ z ∷ p) → (q : List ℕ) → after_first (items (x ∷ y ∷ z ∷ p)) c ≡ Some q → length q ≤ length (x ∷ y ∷ z ∷ p)
shorter_more c x y z p h g q e = let s = past_close_shorter p in let s2 = past_close_shorter (y ∷ z ∷ p) in let h2 = h q in let g2 = g q in grind (arith, nat_tests)

shorter : (c : ℕ) (p : List ℕ) → Shorter c p
shorter c [] = λ q e. absurd (cc)
shorter c (x ∷ []) = shorter_one c x
shorter c (x ∷ y ∷ []) = shorter_two c x y (shorter c (y ∷ []))
shorter c (x ∷ y ∷ z ∷ p) = shorter_more c x y z p (shorter c p) (shorter c (y ∷ z ∷ p))

after_cons_shorter : (x : ℕ) (p q : List ℕ) (c : ℕ) → (after_first (items p) c ≡ Some q → length q ≤ length p) → (after_escaped p c ≡ Some q → length q ≤ length p) → after_item (x ∷ p) c ≡ Some q → length q < length (x ∷ p)
after_cons_shorter x p q c h g e = grind (arith, nat_tests)

escaped_cons : (x : ℕ) (p q : List ℕ) (c : ℕ) → after_escaped (x ∷ p) c ≡ Some q → length q ≤ length (x ∷ p)
escaped_cons x p q c e = grind (arith, nat_tests)

escaped_shorter : (p q : List ℕ) (c : ℕ) → after_escaped p c ≡ Some q → length q ≤ length p
escaped_shorter [] q c e = absurd (cc)
escaped_shorter (x ∷ p) q c e = escaped_cons x p q c e

pub after_item_shorter : (p q : List ℕ) (c : ℕ) → after_item p c ≡ Some q → length q < length p
after_item_shorter [] q c e = absurd (cc)
after_item_shorter (x ∷ p) q c e = after_cons_shorter x p q c (shorter c p q) (escaped_shorter p q c) e
