-- What the notes of a bench's cells tell of its calls.
use Rattle.std.proofs.Common.{ℕ, ◌≡◌, ◌+◌, ◌-◌, ◌<◌, ◌≤◌, ◌⊎◌, length-append, inl, inr, zero, suc, List, [], ◌∷◌, ◌++◌, length, take, slice_get, Some, refl, sym, ap, ◌∙◌, subst, arith, IfSome}
use native.Mathlib.Numerals.{unary_clauses}
use mathlib.Core.List.{IsPrefix}
use Rattle.once_cell.specs.Once.{Agrees}
use Rattle.dg_bench.specs.Cells.{Sees}
use Rattle.dg_bench.specs.declared.note.PlaceNote.{PlaceNote}
use Rattle.dg_bench.specs.declared.call.Call.{Call}
use Rattle.dg_bench.specs.declared.place.Place.{Place}
use Rattle.dg_bench.specs.Seen.{KnowsAll, Knows, all_of, calls_of, calls_to}

take_suc : {X : Type 0} (xs : List X) (k : ℕ) (x : X) → slice_get xs k ≡ Some x → take k xs ++ x ∷ [] ≡ take (suc k) xs
take_suc [] k x at = grind arith
take_suc (y ∷ ys) zero x at = grind arith
take_suc (y ∷ ys) (suc k) x at = ap (λ zs. y ∷ zs) (take_suc ys k x at)

pub take_next : {X : Type 0} (xs : List X) (k : ℕ) (x : X) → slice_get xs k ≡ Some x → take k xs ++ x ∷ [] ≡ take (k + 1) xs
take_next xs k x at = simp unary_clauses (take_suc xs k x at)

pub prefix_of_take : {X : Type 0} (xs : List X) (k : ℕ) → IsPrefix (take k xs) xs
prefix_of_take xs zero = (xs, refl)
prefix_of_take [] (suc k) = ([], refl)
prefix_of_take (y ∷ ys) (suc k) = let r = prefix_of_take ys k in (r.0, ap (λ zs. y ∷ zs) r.1)

-- a note of the k-th place knows the calls so far and its own
pub known_at : (names : List ℕ) (notes : List PlaceNote) (calls : List Call) (k : ℕ) (n : PlaceNote) → KnowsAll names notes calls → slice_get notes k ≡ Some n → (p : Place) × (Sees names k n p) × (all_of p ≡ take (k + 1) calls)
known_at names notes calls k n all at =
    let here = all.each k n at in
    (here.0, here.1, ap (λ xs. xs ++ here.0.call ∷ []) here.3 ∙ take_next calls k here.0.call here.2)

pub slice_at : {X : Type 0} (xs : List X) (k : ℕ) → k < length xs → (x : X) × (slice_get xs k ≡ Some x)
slice_at [] k within = absurd (omega arith)
slice_at (x ∷ xs) zero within = (x, refl)
slice_at (x ∷ xs) (suc k) within = slice_at xs k (omega arith)

pub take_all : {X : Type 0} (xs : List X) (k : ℕ) → k ≡ length xs → take k xs ≡ xs
take_all [] zero is = refl
take_all [] (suc k) is = refl
take_all (x ∷ xs) zero is = absurd (omega arith)
take_all (x ∷ xs) (suc k) is = ap (λ ys. x ∷ ys) (take_all xs k (omega arith))

-- what a note of the k-th place knows that agrees with the bench's own: a beginning of the calls
pub agreed : (names : List ℕ) (notes : List PlaceNote) (calls : List Call) (count : ℕ) (mine : PlaceNote) (k : ℕ) → KnowsAll names notes calls → Knows names count (Some mine) → k ≡ count - 1 → ((n : PlaceNote) → slice_get notes k ≡ Some n → IfSome mine.place.known (Agrees n.place.known)) → count ≤ length calls → IsPrefix (calls_of (Some mine)) calls
agreed names notes calls count mine k all knows is agrees within =
    let q = knows.1 in
    let n = slice_at notes k (let l = all.lengths in let c = knows.2 in omega arith) in
    let p = known_at names notes calls k n.0 all n.1 in
    let told : Agrees n.0.place.known q = subst (λ o. IfSome o (Agrees n.0.place.known)) knows.3.holds (agrees n.0 n.1) in
    let same : p.0 ≡ q = subst (λ o. Agrees o q) p.1.holds told in
    let mine_is : calls_of (Some mine) ≡ take (k + 1) calls = ap calls_to knows.3.holds ∙ ap all_of (sym same) ∙ p.2 in
    subst (λ xs. IsPrefix xs calls) (sym mine_is) (prefix_of_take calls (k + 1))

-- the pass's last place is that of the bench's note
pub seen_by_both : (names : List ℕ) (notes : List PlaceNote) (calls : List Call) (count : ℕ) (mine : PlaceNote) (k : ℕ) → KnowsAll names notes calls → Knows names count (Some mine) → k ≡ count - 1 →
    (n : PlaceNote) → slice_get notes k ≡ Some n → (all_names : List ℕ) × (p : Place) × (q : Place) × (Sees all_names k n p) × (Sees all_names k mine q)
seen_by_both names notes calls count mine k all knows is n at =
    let p = known_at names notes calls k n all at in
    let c = knows.2 in
    let here : knows.0 ≡ k = omega arith in
    (names, p.0, knows.1, p.1, subst (λ i. Sees names i mine knows.1) here knows.3)

pub all_known : (names : List ℕ) (notes : List PlaceNote) (calls : List Call) (k : ℕ) (n : PlaceNote) → KnowsAll names notes calls → slice_get notes k ≡ Some n → k + 1 ≡ length calls → (Knows names (k + 1) (Some n)) × (calls_of (Some n) ≡ calls)
all_known names notes calls k n all at last =
    let p = known_at names notes calls k n all at in
    ((k, p.0, refl, p.1), ap calls_to p.1.holds ∙ p.2 ∙ take_all calls (k + 1) last)

pub at_end : {X : Type 0} (xs : List X) (x : X) → slice_get (xs ++ x ∷ []) (length xs) ≡ Some x
at_end [] x = refl
at_end (y ∷ ys) x = at_end ys x

pub take_end : {X : Type 0} (xs : List X) (x : X) → take (length xs) (xs ++ x ∷ []) ≡ xs
take_end [] x = refl
take_end (y ∷ ys) x = ap (λ zs. y ∷ zs) (take_end ys x)

-- each place of the longer list is one of the shorter, or the last
pub at_snoc : {X : Type 0} (xs : List X) (x y : X) (i : ℕ) → slice_get (xs ++ x ∷ []) i ≡ Some y → ((i < length xs) × (slice_get xs i ≡ Some y)) ⊎ ((i ≡ length xs) × (x ≡ y))
at_snoc [] x y zero at = inr (refl, grind arith)
at_snoc [] x y (suc i) at = absurd (grind arith)
at_snoc (z ∷ zs) x y zero at = inl (omega arith, at)
at_snoc (z ∷ zs) x y (suc i) at = elim (at_snoc zs x y i at) [ inl l ↦ inl (omega arith, l.1) | inr r ↦ inr (omega arith, r.1) ]

pub get_before : {X : Type 0} (xs : List X) (x : X) (i : ℕ) → i < length xs → slice_get (xs ++ x ∷ []) i ≡ slice_get xs i
get_before [] x i within = absurd (omega arith)
get_before (y ∷ ys) x zero within = refl
get_before (y ∷ ys) x (suc i) within = get_before ys x i (omega arith)

pub take_before : {X : Type 0} (xs : List X) (x : X) (i : ℕ) → i < length xs → take i (xs ++ x ∷ []) ≡ take i xs
take_before [] x i within = absurd (omega arith)
take_before (y ∷ ys) x zero within = refl
take_before (y ∷ ys) x (suc i) within = ap (λ zs. y ∷ zs) (take_before ys x i (omega arith))

pub entered : (names : List ℕ) (notes : List PlaceNote) (calls : List Call) (n : PlaceNote) (p : Place) (call : Call) → KnowsAll names notes calls → Sees names (length calls) n p → p.call ≡ call → p.before.value.items ≡ calls → KnowsAll names (notes ++ n ∷ []) (calls ++ call ∷ [])
entered names notes calls n p call all sees is before = record {
  lengths = omega (arith, all.lengths, length-append notes (n ∷ []), length-append calls (call ∷ []));
  each = λ i m at. elim (at_snoc notes n m i at) [
    | inl l ↦ (let old = all.each i m l.1 in let within : i < length calls = rw (← all.lengths) l.0 in (old.0, old.1, get_before calls call i within ∙ old.2, old.3 ∙ sym (take_before calls call i within)))
    | inr r ↦ (
        let here : i ≡ length calls = r.0 ∙ all.lengths in (
          p,
          subst (λ (k : PlaceNote). Sees names i k p) r.1 (subst (λ (j : ℕ). Sees names j n p) (sym here) sees),
          (rw here (at_end calls call ∙ ap Some (sym is))),
          (rw here (before ∙ sym (take_end calls call))),
        )
        )
  ];
}
