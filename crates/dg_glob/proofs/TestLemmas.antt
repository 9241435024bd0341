-- The test whether a glob matches decides the relation.
use Rattle.std.proofs.Common.{◌≡◌, ℕ, zero, suc, ◌≤◌, Bool, true, false, ◌||◌, ◌==◌, List, [], ◌∷◌, ◌++◌, length, Option, None, Some, refl, sym, ap, subst, ◌∙◌, inl, inr, ⊎_elim, IsTrue, ◌↔◌, arith}
use Rattle.std.proofs.lemmas.Bool.{false≢true, cases_Bool, cond-true, cond-false, eqb-true}
use Rattle.dg_glob.specs.Items.{after_item}
use Rattle.dg_glob.specs.Glob.{Matches}
use Rattle.dg_glob.specs.Glob.Matches.{nothing, star, item}
use Rattle.dg_glob.proofs.ItemLemmas.{after_item_shorter}
use Rattle.dg_glob.specs.Tests.{glob_matches, matches_within, any_end, after, by_item}

or_right : (a b : Bool) → b ≡ true → (a || b) ≡ true
or_right true b h = refl
or_right false b h = h

or_left : (a b : Bool) → a ≡ true → (a || b) ≡ true
or_left a b h = ap (λ (v : Bool). v || b) h

any_end-at : (f : List ℕ → Bool) (x y : List ℕ) → f y ≡ true → any_end f (x ++ y) ≡ true
any_end-at f [] [] h = h
any_end-at f [] (c ∷ t) h = or_left _ _ h
any_end-at f (c ∷ x) y h = or_right _ _ (any_end-at f x y h)

-- A text of two parts, at whose second a test passes.
record PassesAt (f : List ℕ → Bool) (t : List ℕ) : Type 0 where
  front : List ℕ
  back : List ℕ
  split : t ≡ front ++ back
  passes : f back ≡ true

any_end-found : (f : List ℕ → Bool) (t : List ℕ) → any_end f t ≡ true → PassesAt f t
any_end-found f [] h = record { front = []; back = []; split = refl; passes = h }
any_end-found f (c ∷ t) h =
    elim (cases_Bool (f (c ∷ t))) [
      | inl hit ↦ record { front = []; back = c ∷ t; split = refl; passes = hit }
      | inr miss ↦
          let later = any_end-found f t (ap (λ (v : Bool). v || any_end f t) (sym miss) ∙ h) in
          record { front = c ∷ later.front; back = later.back; split = ap (λ (u : List ℕ). c ∷ u) later.split; passes = later.passes }
    ]

none_some : {q : List ℕ} → None ≡ Some q → ⊥
none_some e = cc

complete : (p t : List ℕ) → Matches p t → (n : ℕ) → length p ≤ n → matches_within n p t ≡ true
complete _ _ nothing zero l = refl
complete _ _ nothing (suc n) l = refl
complete _ _ (star p x y m) zero l = absurd (omega arith)
complete _ _ (star p x y m) (suc n) l = any_end-at (matches_within n p) x y (complete p y m n (omega arith))
complete _ _ (item [] q c t e m) n l = absurd (none_some e)
complete _ _ (item (x ∷ p) q c t e m) zero l = absurd (omega arith)
complete _ _ (item (x ∷ p) q c t e m) (suc n) l =
    elim (cases_Bool (x == 42)) [
      | inl hit ↦ absurd (none_some (sym (cond-true _ _ _ hit) ∙ e))
      | inr miss ↦ cond-false _ _ _ miss ∙ (ap (λ (o : Option (List ℕ)). after o (λ r. matches_within n r t)) e
          ∙ complete q t m n (omega (arith, after_item_shorter (x ∷ p) q c e)))
    ]

by_item-found : (f : List ℕ → List ℕ → Bool) (p q : List ℕ) (c : ℕ) (t : List ℕ) (o : Option (List ℕ)) → o ≡ after_item p c → after o (λ r. f r t) ≡ true → ((r : List ℕ) → f r t ≡ true → Matches r t) → Matches p (c ∷ t)
by_item-found f p q c t None e h more = absurd (false≢true h)
by_item-found f p q c t (Some r) e h more = item p r c t (sym e) (more r h)

items : (p t : List ℕ) (n : ℕ) → by_item (matches_within n) p t ≡ true → ((r u : List ℕ) → matches_within n r u ≡ true → Matches r u) → Matches p t
items p [] n h more = absurd (false≢true h)
items p (c ∷ t) n h more = by_item-found (matches_within n) p [] c t (after_item p c) refl h (λ r g. more r t g)

sound : (n : ℕ) (p t : List ℕ) → matches_within n p t ≡ true → Matches p t
sound zero [] [] h = nothing
sound zero [] (c ∷ t) h = absurd (false≢true h)
sound zero (x ∷ p) t h = absurd (false≢true h)
sound (suc n) [] [] h = nothing
sound (suc n) [] (c ∷ t) h = absurd (false≢true h)
sound (suc n) (x ∷ p) t h =
    elim (cases_Bool (x == 42)) [
      | inl hit ↦
          let found = any_end-found (matches_within n p) t (sym (cond-true _ _ _ hit) ∙ h) in
          let whole : Matches (42 ∷ p) t = subst (λ (u : List ℕ). Matches (42 ∷ p) u) (sym found.split) (star p found.front found.back (sound n p found.back found.passes)) in
          subst (λ (y : ℕ). Matches (y ∷ p) t) (sym (eqb-true x 42 hit)) whole
      | inr miss ↦ items (x ∷ p) t n (sym (cond-false _ _ _ miss) ∙ h) (λ r u g. sound n r u g)
    ]

pub glob_true : (p t : List ℕ) → Matches p t → glob_matches p t ≡ true
unfolding glob_matches
glob_true p t h = complete p t h (length p) (omega arith)

pub matches_from_test : (p t : List ℕ) → glob_matches p t ≡ true → Matches p t
unfolding glob_matches
matches_from_test p t h = sound (length p) p t h

pub glob_decided : (p t : List ℕ) (b : Bool) → IsTrue b ↔ Matches p t → b ≡ glob_matches p t
glob_decided p t true h = sym (glob_true p t (h.0 refl))
glob_decided p t false h = ⊎_elim (λ hit. absurd (false≢true (h.1 (matches_from_test p t hit)))) (λ miss. sym miss) (cases_Bool (glob_matches p t))
