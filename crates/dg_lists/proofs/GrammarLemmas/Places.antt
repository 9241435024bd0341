-- Fronts of texts, and the first place at which a text stops to be such a text.
use Rattle.std.specs.Prelude.{◌≡◌, ℕ, ◌≤◌, ◌<◌, List, [], ◌∷◌, ◌++◌, length, refl, ◌⊎◌}
use Rattle.std.proofs.Common.{inl, inr, ◌∙◌, ap, sym, arith, subst, append_assoc, length-append}
use Rattle.std.proofs.lemmas.Bool.Decides.{leb_tells}
use Rattle.dg_lists.specs.Grammar.Continuing.{GoesOn, IsNot, StopsAt}

head_of : List ℕ → ℕ
head_of [] = 0
head_of (b ∷ bs) = b

tail_of : List ℕ → List ℕ
tail_of [] = []
tail_of (b ∷ bs) = bs

pub same_head : {b c : ℕ} {bs cs : List ℕ} → b ∷ bs ≡ c ∷ cs → b ≡ c
unfolding head_of
same_head e = ap head_of e

pub same_tail : {b c : ℕ} {bs cs : List ℕ} → b ∷ bs ≡ c ∷ cs → bs ≡ cs
unfolding tail_of
same_tail e = ap tail_of e

-- fronts of one length are one
pub same_front : (f g r s : List ℕ) → f ++ r ≡ g ++ s → length f ≡ length g → (f ≡ g) × (r ≡ s)
same_front [] [] r s e h = (refl, e)
same_front [] (c ∷ g) r s e h = absurd (omega (arith, h))
same_front (b ∷ f) [] r s e h = absurd (omega (arith, h))
same_front (b ∷ f) (c ∷ g) r s e h =
    let shorter : length f ≡ length g = omega (arith, h) in
    let x = same_front f g r s (same_tail e) shorter in
    (ap (λ t. b ∷ t) x.0 ∙ ap (λ y. y ∷ g) (same_head e), x.1)

-- the first place is one
longer : (f r g s : List ℕ) (b : ℕ) → f ++ r ≡ g ++ (b ∷ s) → length g < length f → (h : List ℕ) × (f ≡ g ++ (b ∷ h))
longer [] r g s b e l = absurd (omega (arith, l))
longer (c ∷ f) r [] s b e l = (f, ap (λ x. x ∷ f) (same_head e))
longer (c ∷ f) r (d ∷ g) s b e l =
    let x = longer f r g s b (same_tail e) (omega (arith, l)) in
    (x.0, ap (λ t. c ∷ t) x.1 ∙ ap (λ y. y ∷ (g ++ (b ∷ x.0))) (same_head e))

le_or : (p q : ℕ) → (p ≤ q) ⊎ (q < p)
le_or p q = elim (leb_tells p q) [ inl x ↦ inl x.1 | inr x ↦ inr x.1 ]

not_before : (Is : List ℕ → Type 0) (text : List ℕ) (p q : ℕ) → GoesOn Is text p → StopsAt (IsNot Is) text q → q < p → ⊥
not_before Is text p q x y l = elim y.why [
  | inl (e, n) ↦ omega (arith, l, x.place_is, y.place_is, ap length e, ap length x.split, length-append x.front x.rest)
  | inr (b, rest, e, n) ↦
      let z = longer x.front x.rest y.front rest b (sym x.split ∙ e) (omega (arith, l, x.place_is, y.place_is)) in
      n (z.0 ++ x.closing) (subst Is (ap (λ t. t ++ x.closing) z.1 ∙ append_assoc y.front (b ∷ z.0) x.closing) x.is_such)
]

pub one_place : (Is : List ℕ → Type 0) (text : List ℕ) (p q : ℕ) → GoesOn Is text p → StopsAt (IsNot Is) text p → GoesOn Is text q → StopsAt (IsNot Is) text q → p ≡ q
one_place Is text p q x y v w = elim (le_or p q) [
  | inl l ↦ elim (le_or q p) [ inl k ↦ omega (arith, l, k) | inr k ↦ absurd (not_before Is text q p v y k) ]
  | inr l ↦ absurd (not_before Is text p q x w l)
]

-- what each text is that begins so, the text is
pub stops_whole : (Is : List ℕ → Type 0) (text : List ℕ) (place : ℕ) → StopsAt Is text place → Is text
stops_whole Is text place x = elim x.why [ inl (e, h) ↦ h | inr (b, rest, e, h) ↦ subst Is (sym e) (h rest) ]
