-- Reads of entries in a row are found by their places.
use Rattle.std.proofs.Common.{◌≡◌, ◌∙◌, ℕ, zero, suc, ◌+◌, ◌==◌, ◌&&◌, Bool, true, false, List, [], ◌∷◌, ◌++◌, length, refl, ap, sym, subst, arith}
use Rattle.std.proofs.lemmas.Bool.{and_parts, and_from, eqb-true}
use Rattle.std.specs.Prelude.{Option, Some, None}
use Rattle.std.specs.List.{slice_get}
use Rattle.dg_world.specs.declared.question.EntryPlace.{EntryPlace}
use Rattle.dg_world.specs.declared.question.Question.{Question}
use Rattle.dg_world.specs.declared.question.Question.TheVariants.{File, Tool, Triplet, Variable, Entry, Pattern}
use Rattle.dg_world.specs.declared.question.Answer.{Answer}
use Rattle.dg_world.specs.declared.question.Read.{Read}
use Rattle.dg_world.specs.Question.{same_question}
use Rattle.dg_world.specs.Test.{same_test}
use Rattle.dg_language.specs.Play.{lookup}
use Rattle.dg_language.specs.Row.{asks_at, are_in_row}

-- no read asks this
pub lookup-none : (rs : List Read) (q : Question) → ((i : ℕ) (r : Read) → slice_get rs i ≡ Some r → same_question r.question q ≡ false) → lookup q rs ≡ None
unfolding lookup
lookup-none [] q h = refl
lookup-none (r ∷ rs) q h =
    ap (λ b. elim b as (λ _. Option Answer) [ true ↦ Some r.answer | false ↦ lookup q rs ]) (h zero r refl) ∙ lookup-none rs q (λ i x g. h (suc i) x g)

-- one read asks this, and none before it
pub lookup-at : (rs : List Read) (q : Question) (i : ℕ) (r : Read) → slice_get rs i ≡ Some r → same_question r.question q ≡ true
    → ((j : ℕ) (x : Read) → slice_get rs j ≡ Some x → same_question x.question q ≡ true → j ≡ i) → lookup q rs ≡ Some r.answer
unfolding lookup
lookup-at [] q i r g s only = cc
lookup-at (x ∷ xs) q zero r g s only =
    let same : x ≡ r = cc in
    subst (λ (y : Read). elim (same_question x.question q) as (λ _. Option Answer) [ true ↦ Some x.answer | false ↦ lookup q xs ] ≡ Some y.answer) same
    (ap (λ b. elim b as (λ _. Option Answer) [ true ↦ Some x.answer | false ↦ lookup q xs ]) (subst (λ (y : Read). same_question y.question q ≡ true) (sym same) s))
lookup-at (x ∷ xs) q (suc i) r g s only = go (same_question x.question q) refl (lookup-at xs q i r g s (λ j y h t. let same = only (suc j) y h t in omega (arith, same)))
  where
    go : (b : Bool) → same_question x.question q ≡ b → lookup q xs ≡ Some r.answer
        → (elim b as (λ _. Option Answer) [ true ↦ Some x.answer | false ↦ lookup q xs ]) ≡ Some r.answer
    go true e ih = let never = only zero x refl e in absurd (omega (arith, never))
    go false e ih = ih

-- what is behind the reads that don't ask this
pub lookup-behind : (q : Question) (xs ys : List Read) → lookup q xs ≡ None → lookup q (xs ++ ys) ≡ lookup q ys
unfolding lookup
lookup-behind q [] ys h = refl
lookup-behind q (x ∷ xs) ys h = go (same_question x.question q) h (lookup-behind q xs ys)
  where
    go : (b : Bool) → (elim b as (λ _. Option Answer) [ true ↦ Some x.answer | false ↦ lookup q xs ]) ≡ None → (lookup q xs ≡ None → lookup q (xs ++ ys) ≡ lookup q ys)
        → (elim b as (λ _. Option Answer) [ true ↦ Some x.answer | false ↦ lookup q (xs ++ ys) ]) ≡ lookup q ys
    go true h ih = cc
    go false h ih = ih h

-- each of a row asks for the entry at its place
pub row-at : (s p : ℕ) (rs : List Read) (i : ℕ) (r : Read) → are_in_row s p rs ≡ true → slice_get rs i ≡ Some r → asks_at s (p + i) r.question ≡ true
row-at s p [] i r h g = cc
row-at s p (x ∷ xs) zero r h g =
    let parts = and_parts (asks_at s p x.question) (are_in_row s (p + 1) xs) h in
    let same : x ≡ r = cc in
    let at : p ≡ p + zero = omega arith in
    subst (λ n. asks_at s n r.question ≡ true) at (subst (λ (y : Read). asks_at s p y.question ≡ true) same parts.0)
row-at s p (x ∷ xs) (suc i) r h g =
    let parts = and_parts (asks_at s p x.question) (are_in_row s (p + 1) xs) h in
    let at : (p + 1) + i ≡ p + suc i = omega arith in
    subst (λ n. asks_at s n r.question ≡ true) at (row-at s (p + 1) xs i r parts.1 g)

-- only for that one
pub asks-only : (s n : ℕ) (q : Question) (e : EntryPlace) → asks_at s n q ≡ true → same_question q (Entry e) ≡ true → (e.session ≡ s) × (e.place ≡ n)
asks-only s n (File m) e a t = cc
asks-only s n Tool e a t = cc
asks-only s n (Triplet m) e a t = cc
asks-only s n (Variable m) e a t = cc
asks-only s n (Pattern m) e a t = cc
asks-only s n (Entry d) e a t =
    let here = and_parts (d.session == s) (d.place == n) a in
    let parts = and_parts (same_test d.test e.test && (d.session == e.session)) (d.place == e.place) t in
    let both = and_parts (same_test d.test e.test) (d.session == e.session) parts.0 in
    (sym (eqb-true d.session e.session both.1) ∙ eqb-true d.session s here.0, sym (eqb-true d.place e.place parts.1) ∙ eqb-true d.place n here.1)

-- a read of a row that asks for this entry stands at its place
pub row-only : (s p : ℕ) (rs : List Read) (i : ℕ) (r : Read) (e : EntryPlace) → are_in_row s p rs ≡ true → slice_get rs i ≡ Some r
    → same_question r.question (Entry e) ≡ true → (e.session ≡ s) × (e.place ≡ p + i)
row-only s p rs i r e h g t = asks-only s (p + i) r.question e (row-at s p rs i r h g) t

-- it asks for no file
pub row-entries : (s p : ℕ) (rs : List Read) (q : Question) → ((e : EntryPlace) → q ≡ Entry e → ⊥) → are_in_row s p rs ≡ true → lookup q rs ≡ None
row-entries s p rs q not h = lookup-none rs q (λ i r g. other r.question q not (p + i) (row-at s p rs i r h g))
  where
    other : (d q : Question) → ((e : EntryPlace) → q ≡ Entry e → ⊥) → (n : ℕ) → asks_at s n d ≡ true → same_question d q ≡ false
    other (Entry d) (File m) not n a = refl
    other (Entry d) Tool not n a = refl
    other (Entry d) (Triplet m) not n a = refl
    other (Entry d) (Variable m) not n a = refl
    other (Entry d) (Pattern m) not n a = refl
    other (Entry d) (Entry e) not n a = absurd (not e refl)
    other (File m) q not n a = cc
    other Tool q not n a = cc
    other (Triplet m) q not n a = cc
    other (Variable m) q not n a = cc
    other (Pattern m) q not n a = cc

-- it has no entry that asks for what stands elsewhere
pub row-none : (s p : ℕ) (rs : List Read) (e : EntryPlace) → are_in_row s p rs ≡ true
    → ((i : ℕ) (r : Read) → slice_get rs i ≡ Some r → (e.session ≡ s) × (e.place ≡ p + i) → same_question r.question (Entry e) ≡ false) → lookup (Entry e) rs ≡ None
row-none s p rs e h never = lookup-none rs (Entry e) (λ i r g. go i r g (same_question r.question (Entry e)) refl)
  where
    go : (i : ℕ) (r : Read) → slice_get rs i ≡ Some r → (b : Bool) → same_question r.question (Entry e) ≡ b → same_question r.question (Entry e) ≡ false
    go i r g true t = never i r g (row-only s p rs i r e h g t)
    go i r g false t = t

-- one more at the end
pub row-more : (s p : ℕ) (rs : List Read) (r : Read) → are_in_row s p rs ≡ true → asks_at s (p + length rs) r.question ≡ true → are_in_row s p (rs ++ r ∷ []) ≡ true
row-more s p [] r h a =
    let at : p + zero ≡ p = omega arith in
    and_from (asks_at s p r.question) true (subst (λ n. asks_at s n r.question ≡ true) at a) refl
row-more s p (x ∷ xs) r h a =
    let parts = and_parts (asks_at s p x.question) (are_in_row s (p + 1) xs) h in
    let at : p + suc (length xs) ≡ (p + 1) + length xs = omega arith in
    and_from (asks_at s p x.question) (are_in_row s (p + 1) (xs ++ r ∷ [])) parts.0
    (row-more s (p + 1) xs r parts.1 (subst (λ n. asks_at s n r.question ≡ true) at a))

pub some-same : {A : Type 0} (a b : A) → Some a ≡ Some b → a ≡ b
some-same a b h = cc
