-- The rows of marks, one cell and one row further.
use Rattle.std.proofs.Common.{◌≡◌, ◌≢◌, ◌≤◌, ◌<◌, ◌+◌, ◌-◌, ◌↔◌, ◌⊎◌, inl, inr, ⊎_elim, ℕ, suc, Bool, true, false, ◌||◌, ◌&&◌, ◌==◌, cond, List, [], ◌∷◌, Option, Some, None, IfSome, IfNone, length, get_or, drop, refl, sym, ap, ◌∙◌, subst, arith}
use Rattle.std.proofs.lemmas.Bool.{cases_eq, cases_lt, eqb-true}
use Rattle.std.proofs.lemmas.List.{drop-drop, drop_all, drop_more, length-drop, length-append, nil_from_length}
use Rattle.dg_glob.specs.Items.{Item, single, items, past_close, takes, after_first, after_escaped, after_item}
use Rattle.dg_glob.specs.Search.{Ends, IsAnswer, IsLongest}
use Rattle.dg_glob.specs.Marks.{marked}
use Rattle.dg_glob.specs.Rows.{AreFewest, FewLeft, last, IsRow, marked_left, cell}
use Rattle.dg_glob.proofs.ItemLemmas.{after_item_shorter}
use Rattle.dg_glob.proofs.LeavesLemmas.{IsAtItem, leaves_all, all_left, leaves_item, item_goes, item_stops, item_wants}
use Rattle.dg_glob.proofs.SearchLemmas.{star_here, star_next, star_or_next, star_at_end}

-- a pattern that is left of another
pub record IsTail (q p : List ℕ) : Type 0 where
  pub gone : ℕ
  pub is : q ≡ drop gone p

tail_self : (p : List ℕ) → IsTail p p
tail_self p = record { gone = 0; is = refl }

tail_more : (x : ℕ) (q p : List ℕ) → IsTail q p → IsTail q (x ∷ p)
tail_more x q p t = record { gone = suc t.gone; is = t.is }

close_tail : (p : List ℕ) → IsTail (past_close p) p
close_tail [] = tail_self []
close_tail (x ∷ p) =
    let h = close_tail p in
    elim (x == 93) as (λ b. IsTail (cond b p (past_close p)) (x ∷ p)) [ true ↦ tail_more x p p (tail_self p) | false ↦ tail_more x (past_close p) p h ]

TailOf : Option (List ℕ) → List ℕ → Type 0
TailOf o p = (q : List ℕ) → o ≡ Some q → IsTail q p

tail_of_none : (p : List ℕ) → TailOf None p
unfolding TailOf
tail_of_none p q e = absurd (cc)

tail_of_some : (r p : List ℕ) → IsTail r p → TailOf (Some r) p
unfolding TailOf
tail_of_some r p t q e = subst (λ y. IsTail y p) (let same : r ≡ q = cc in same) t

tail_of_more : (o : Option (List ℕ)) (x : ℕ) (p : List ℕ) → TailOf o p → TailOf o (x ∷ p)
unfolding TailOf
tail_of_more o x p h q e = tail_more x q p (h q e)

tail_of_cond : (b : Bool) (o r : Option (List ℕ)) (p : List ℕ) → TailOf o p → TailOf r p → TailOf (cond b o r) p
tail_of_cond true o r p h g = h
tail_of_cond false o r p h g = g

tail_of_items : (b : Bool) (is js : List Item) (c : ℕ) (p : List ℕ) → TailOf (after_first is c) p → TailOf (after_first js c) p → TailOf (after_first (cond b is js) c) p
tail_of_items true is js c p h g = h
tail_of_items false is js c p h g = g

tail_of_item : (i : Item) (is : List Item) (c : ℕ) (p : List ℕ) → IsTail i.after p → TailOf (after_first is c) p → TailOf (after_first (i ∷ is) c) p
tail_of_item i is c p t h =
    let close = close_tail i.after in
    let far : past_close i.after ≡ drop (t.gone + close.gone) p = close.is ∙ ap (drop close.gone) t.is ∙ drop-drop close.gone t.gone p in
    tail_of_cond (takes i c) (Some (past_close i.after)) (after_first is c) p (tail_of_some (past_close i.after) p (record { gone = t.gone + close.gone; is = far })) h

range : ℕ → ℕ → List ℕ → Item
range x z p = record { from = x; to = z; after = p }

items_tail : (c : ℕ) (p : List ℕ) → TailOf (after_first (items p) c) p
unfolding range
items_tail c [] = tail_of_none []
items_tail c (x ∷ []) =
    tail_of_items (x == 93) [] (single x [] ∷ []) c (x ∷ []) (tail_of_none (x ∷ []))
    (tail_of_item (single x []) [] c (x ∷ []) (tail_more x [] [] (tail_self [])) (tail_of_none (x ∷ [])))
items_tail c (x ∷ y ∷ []) =
    let p = x ∷ y ∷ [] in
    tail_of_items (x == 93) [] (cond (y == 45) [] (single x (y ∷ []) ∷ items (y ∷ []))) c p (tail_of_none p)
    (tail_of_items (y == 45) [] (single x (y ∷ []) ∷ items (y ∷ [])) c p (tail_of_none p)
    (tail_of_item (single x (y ∷ [])) (items (y ∷ [])) c p (tail_more x (y ∷ []) (y ∷ []) (tail_self (y ∷ []))) (tail_of_more (after_first (items (y ∷ [])) c) x (y ∷ []) (items_tail c (y ∷ [])))))
items_tail c (x ∷ y ∷ z ∷ p) =
    let q = x ∷ y ∷ z ∷ p in
    let h = items_tail c p in
    let g = items_tail c (y ∷ z ∷ p) in
    tail_of_items (x == 93) [] (cond (y == 45) (range x z p ∷ items p) (single x (y ∷ z ∷ p) ∷ items (y ∷ z ∷ p))) c q (tail_of_none q)
    (tail_of_items (y == 45) (range x z p ∷ items p) (single x (y ∷ z ∷ p) ∷ items (y ∷ z ∷ p)) c q
    (tail_of_item (range x z p) (items p) c q (tail_more x p (y ∷ z ∷ p) (tail_more y p (z ∷ p) (tail_more z p p (tail_self p)))) (tail_of_more (after_first (items p) c) x (y ∷ z ∷ p) (tail_of_more (after_first (items p) c) y (z ∷ p) (tail_of_more (after_first (items p) c) z p h))))
    (tail_of_item (single x (y ∷ z ∷ p)) (items (y ∷ z ∷ p)) c q (tail_more x (y ∷ z ∷ p) (y ∷ z ∷ p) (tail_self (y ∷ z ∷ p))) (tail_of_more (after_first (items (y ∷ z ∷ p)) c) x (y ∷ z ∷ p) g)))

escaped_tail : (c : ℕ) (p : List ℕ) → TailOf (after_escaped p c) p
escaped_tail c [] = tail_of_none []
escaped_tail c (x ∷ p) = tail_of_cond (x == c) (Some p) None (x ∷ p) (tail_of_some p (x ∷ p) (tail_more x p p (tail_self p))) (tail_of_none (x ∷ p))

item_tail : (c : ℕ) (p : List ℕ) → TailOf (after_item p c) p
item_tail c [] = tail_of_none []
item_tail c (x ∷ p) =
    let q = x ∷ p in
    tail_of_cond (x == 42) None (cond (x == 63) (Some p) (cond (x == 91) (after_first (items p) c) (cond (x == 92) (after_escaped p c) (after_escaped q c)))) q (tail_of_none q)
    (tail_of_cond (x == 63) (Some p) (cond (x == 91) (after_first (items p) c) (cond (x == 92) (after_escaped p c) (after_escaped q c))) q (tail_of_some p q (tail_more x p p (tail_self p)))
    (tail_of_cond (x == 91) (after_first (items p) c) (cond (x == 92) (after_escaped p c) (after_escaped q c)) q (tail_of_more (after_first (items p) c) x p (items_tail c p))
    (tail_of_cond (x == 92) (after_escaped p c) (after_escaped q c) q (tail_of_more (after_escaped p c) x p (escaped_tail c p)) (escaped_tail c q))))

-- what an item leaves is an end of the pattern, by its length
tail_last : (q p : List ℕ) → IsTail q p → last (length q) p ≡ q
tail_last q p t =
    let n = ap length t.is ∙ length-drop t.gone p in
    ⊎_elim
    (λ low. let m : length p - length q ≡ t.gone = omega arith in ap (λ k. drop k p) m ∙ sym t.is)
    (λ high.
    let none : q ≡ [] = t.is ∙ drop_all t.gone p high in
    let m : length p - length q ≡ length p = omega arith in
    ap (λ k. drop k p) m ∙ drop_all (length p) p (omega arith) ∙ sym none)
    (cases_lt t.gone (length p))

item_last : (p q : List ℕ) (c : ℕ) → after_item p c ≡ Some q → last (length q) p ≡ q
unfolding TailOf
item_last p q c e = tail_last q p (item_tail c p q e)

-- ends of ends
last_last : (i n : ℕ) (p : List ℕ) → i ≤ n → n ≤ length p → last i (last n p) ≡ last i p
last_last i n p h g =
    let size = length-drop (length p - n) p in
    let m : (length p - n) + (length (last n p) - i) ≡ length p - i = omega arith in
    drop-drop (length (last n p) - i) (length p - n) p ∙ ap (λ k. drop k p) m

last_all : (p : List ℕ) → last (length p) p ≡ p
last_all p = let n : length p - length p ≡ 0 = omega arith in ap (λ k. drop k p) n

last_none : (p : List ℕ) → last 0 p ≡ []
last_none p = drop_all (length p - 0) p (omega arith)

last_more : (i : ℕ) (p : List ℕ) → i < length p → (x : ℕ) × (last (i + 1) p ≡ x ∷ last i p)
last_more i p h =
    let n : length p - (i + 1) + 1 ≡ length p - i = omega arith in
    (get_or p (length p - (i + 1)) 0, drop_more p (length p - (i + 1)) 0 (omega arith) ∙ ap (λ k. get_or p (length p - (i + 1)) 0 ∷ drop k p) n)

-- few bytes left, step by step
few_end : (k : ℕ) (t : List ℕ) → (length t ≤ k) ↔ FewLeft k [] t
few_end k t = (
  λ h. record { rest = t; leaves = leaves_all t; few = h },
  λ f. let n = ap length (all_left t f.rest f.leaves) in let g = f.few in omega arith,
)

few_star_end : (k : ℕ) (p : List ℕ) → FewLeft k p [] ↔ FewLeft k (42 ∷ p) []
few_star_end k p = (
  λ f. record { rest = f.rest; leaves = star_here p [] f.rest f.leaves; few = f.few },
  λ f. record { rest = f.rest; leaves = star_at_end p f.rest f.leaves; few = f.few },
)

few_star : (k c : ℕ) (p u : List ℕ) → (FewLeft k p (c ∷ u) ⊎ FewLeft k (42 ∷ p) u) ↔ FewLeft k (42 ∷ p) (c ∷ u)
few_star k c p u = (
  λ e. ⊎_elim
      (λ f. record { rest = f.rest; leaves = star_here p (c ∷ u) f.rest f.leaves; few = f.few })
      (λ f. record { rest = f.rest; leaves = star_next p c u f.rest f.leaves; few = f.few }) e,
  λ f. ⊎_elim
      (λ l. inl (record { rest = f.rest; leaves = l; few = f.few }))
      (λ l. inr (record { rest = f.rest; leaves = l; few = f.few })) (star_or_next p c u f.rest f.leaves),
)

few_item : (k c : ℕ) (p q u : List ℕ) → IsAtItem p → after_item p c ≡ Some q → FewLeft k q u ↔ FewLeft k p (c ∷ u)
few_item k c p q u at e = (
  λ f. record { rest = f.rest; leaves = leaves_item p q c u f.rest e f.leaves; few = f.few },
  λ f. record { rest = f.rest; leaves = item_goes p q c u f.rest at e f.leaves; few = f.few },
)

few_none : (k c : ℕ) (p u : List ℕ) → IsAtItem p → after_item p c ≡ None → FewLeft k p (c ∷ u) → ⊥
few_none k c p u at e f = item_stops p c u f.rest at e f.leaves

few_wants : (k : ℕ) (p : List ℕ) → IsAtItem p → FewLeft k p [] → ⊥
few_wants k p at f = item_wants p f.rest at f.leaves

or_true : (a b : Bool) → (a || b) ≡ true → (a ≡ true) ⊎ (b ≡ true)
or_true true b h = inl refl
or_true false b h = inr h

true_or : (a b : Bool) → (a ≡ true) ⊎ (b ≡ true) → (a || b) ≡ true
true_or true b h = refl
true_or false b h = ⊎_elim (λ e. absurd (cc)) (λ e. e) h

not_eq : (x y : ℕ) → (x ≡ y → ⊥) → (x == y) ≡ false
not_eq x y ne = go (x == y) refl
  where
    go : (b : Bool) → (x == y) ≡ b → (x == y) ≡ false
    go true e = absurd (ne (eqb-true x y e))
    go false e = e

-- a cell whose pattern begins with a star
star_cell : (k : ℕ) (p t later : List ℕ) (here : Bool) → (here ≡ true) ↔ FewLeft k p t → ((c : ℕ) (u : List ℕ) → t ≡ c ∷ u → (marked later (suc (length p)) ≡ true) ↔ FewLeft k (42 ∷ p) u) → (cell (42 ∷ p) t later here ≡ true) ↔ FewLeft k (42 ∷ p) t
star_cell k p [] later here h row = (λ e. (few_star_end k p).0 (h.0 e), λ f. h.1 ((few_star_end k p).1 f))
star_cell k p (c ∷ u) later here h row = (
  λ e. (few_star k c p u).0 (⊎_elim (λ a. inl (h.0 a)) (λ b. inr ((row c u refl).0 b)) (or_true here (marked later (suc (length p))) e)),
  λ f. true_or here (marked later (suc (length p))) (⊎_elim (λ a. inl (h.1 a)) (λ b. inr ((row c u refl).1 b)) ((few_star k c p u).1 f)),
)

-- the marks for the text without its first byte
abbrev pub LaterRow : ℕ → List ℕ → List ℕ → List ℕ → Type 0
LaterRow k p t later = (c : ℕ) (u : List ℕ) → t ≡ c ∷ u → IsRow k p u later

item_mark : (k c : ℕ) (p u later : List ℕ) → IsAtItem p → IsRow k p u later → (o : Option (List ℕ)) → after_item p c ≡ o → (marked_left later o ≡ true) ↔ FewLeft k p (c ∷ u)
item_mark k c p u later at row None e = (λ h. absurd (cc), λ f. absurd (few_none k c p u at e f))
item_mark k c p u later at row (Some q) e =
    let size : length q ≤ length p = let h = after_item_shorter p q c e in omega arith in
    let one = row (length q) size in
    let same = item_last p q c e in (
      λ h. (few_item k c p q u at e).0 (subst (λ y. FewLeft k y u) same (one.0 h)),
      λ f. one.1 (subst (λ y. FewLeft k y u) (sym same) ((few_item k c p q u at e).1 f)),
    )

item_cell : (k x : ℕ) (p t later : List ℕ) (here : Bool) → (x ≡ 42 → ⊥) → LaterRow k (x ∷ p) t later → (cell (x ∷ p) t later here ≡ true) ↔ FewLeft k (x ∷ p) t
item_cell k x p [] later here ne row =
    let off : cell (x ∷ p) [] later here ≡ false = ap (λ b. b && here) (not_eq x 42 ne) in
    (λ e. absurd (let bad : false ≡ true = sym off ∙ e in cc), λ f. absurd (few_wants k (x ∷ p) ne f))
item_cell k x p (c ∷ u) later here ne row =
    let off : cell (x ∷ p) (c ∷ u) later here ≡ marked_left later (after_item (x ∷ p) c) = ap (λ b. cond b (here || marked later (suc (length p))) (marked_left later (after_item (x ∷ p) c))) (not_eq x 42 ne) in
    let m = item_mark k c (x ∷ p) u later ne (row c u refl) (after_item (x ∷ p) c) refl in
    (λ e. m.0 (sym off ∙ e), λ f. off ∙ m.1 f)

cell_few : (k x : ℕ) (p t later : List ℕ) (here : Bool) → (here ≡ true) ↔ FewLeft k p t → LaterRow k (x ∷ p) t later → (cell (x ∷ p) t later here ≡ true) ↔ FewLeft k (x ∷ p) t
cell_few k x p t later here h row = ⊎_elim
    (λ e.
    let is : x ∷ p ≡ 42 ∷ p = ap (λ y. y ∷ p) e in
    subst (λ y. (cell y t later here ≡ true) ↔ FewLeft k y t) (sym is) (star_cell k p t later here h (λ c u s.
    let one = row c u s (suc (length p)) (omega arith) in
    let all = last_all (x ∷ p) ∙ is in
    (λ m. subst (λ y. FewLeft k y u) all (one.0 m), λ f. one.1 (subst (λ y. FewLeft k y u) (sym all) f)))))
    (λ ne. item_cell k x p t later here ne row)
    (cases_eq x 42)

-- a row for a pattern has one for each of its ends
row_of_end : (k n : ℕ) (p u later : List ℕ) → n ≤ length p → IsRow k p u later → IsRow k (last n p) u later
row_of_end k n p u later h row i low =
    let size : length (last n p) ≡ n = let s = length-drop (length p - n) p in omega arith in
    let one = row i (omega arith) in
    let same = last_last i n p (omega arith) h in
    (λ m. subst (λ y. FewLeft k y u) (sym same) (one.0 m), λ f. one.1 (subst (λ y. FewLeft k y u) same f))

-- the first cell of a row
pub row_begins : (k : ℕ) (p t row : List ℕ) (few : Bool) → (few ≡ true) ↔ (length t ≤ k) → marked row 0 ≡ few → (n : ℕ) → n ≤ 0 → (marked row n ≡ true) ↔ FewLeft k (last n p) t
row_begins k p t row few small same n low =
    let zero_is : n ≡ 0 = omega arith in
    subst (λ m. (marked row m ≡ true) ↔ FewLeft k (last m p) t) (sym zero_is) (
      λ e. subst (λ y. FewLeft k y t) (sym (last_none p)) ((few_end k t).0 (small.0 (sym same ∙ e))),
      λ f. same ∙ small.1 ((few_end k t).1 (subst (λ y. FewLeft k y t) (last_none p) f)),
    )

-- one more cell of a row
pub row_grows : (k i : ℕ) (p t later row row' : List ℕ) (on : Bool) → i < length p
    → ((n : ℕ) → n ≤ i → (marked row n ≡ true) ↔ FewLeft k (last n p) t)
    → (0 < length t → IsRow k p (drop 1 t) later)
    → on ≡ cell (last (i + 1) p) t later (marked row i)
    → marked row' (i + 1) ≡ on → ((n : ℕ) → n ≢ i + 1 → marked row' n ≡ marked row n)
    → (n : ℕ) → n ≤ i + 1 → (marked row' n ≡ true) ↔ FewLeft k (last n p) t
row_grows k i p t later row row' on within before later_row on_is same others n low = ⊎_elim
    (λ early.
    let one = before n (omega arith) in
    let keeps = others n (λ e. absurd (omega arith)) in
    (λ e. one.0 (sym keeps ∙ e), λ f. keeps ∙ one.1 f))
    (λ late.
    let n_is : n ≡ i + 1 = omega arith in
    let more = last_more i p within in
    let here = before i (omega arith) in
    let rows : LaterRow k (more.0 ∷ last i p) t later = λ c u s.
    let positive : 0 < length t = let z = ap length s in omega arith in
    subst (λ y. IsRow k y u later) more.1 (row_of_end k (i + 1) p u later (omega arith) (subst (λ y. IsRow k p y later) (ap (drop 1) s) (later_row positive))) in
    let c = cell_few k more.0 (last i p) t later (marked row i) here rows in
    let on_cell : on ≡ cell (more.0 ∷ last i p) t later (marked row i) = on_is ∙ ap (λ y. cell y t later (marked row i)) more.1 in
    subst (λ m. (marked row' m ≡ true) ↔ FewLeft k (last m p) t) (sym n_is) (
      λ e. subst (λ y. FewLeft k y t) (sym more.1) (c.0 (sym on_cell ∙ sym same ∙ e)),
      λ f. same ∙ on_cell ∙ c.1 (subst (λ y. FewLeft k y t) more.1 f),
    ))
    (cases_lt n (i + 1))

-- the last cell of a row
last_cell : (k : ℕ) (p t row : List ℕ) → IsRow k p t row → (marked row (length p) ≡ true) ↔ FewLeft k p t
last_cell k p t row h =
    let one = h (length p) (omega arith) in
    (λ e. subst (λ y. FewLeft k y t) (last_all p) (one.0 e), λ f. one.1 (subst (λ y. FewLeft k y t) (sym (last_all p)) f))

-- a star before the pattern, at the text's end
pub found_at_end : (k : ℕ) (p t row : List ℕ) → t ≡ [] → IsRow k p t row → (marked row (length p) ≡ true) ↔ FewLeft k (42 ∷ p) t
found_at_end k p t row none h =
    let one = last_cell k p [] row (subst (λ y. IsRow k p y row) none h) in
    subst (λ y. (marked row (length p) ≡ true) ↔ FewLeft k (42 ∷ p) y) (sym none) (
      λ e. (few_star_end k p).0 (one.0 e),
      λ f. one.1 ((few_star_end k p).1 f),
    )

-- and one byte before
pub found_before : (k s : ℕ) (p t row : List ℕ) (found : Bool) → s < length t → (found ≡ true) ↔ FewLeft k (42 ∷ p) (drop (s + 1) t) → IsRow k p (drop s t) row → ((found || marked row (length p)) ≡ true) ↔ FewLeft k (42 ∷ p) (drop s t)
found_before k s p t row found within before h =
    let c = get_or t s 0 in
    let u = drop (s + 1) t in
    let split : drop s t ≡ c ∷ u = drop_more t s 0 within in
    let one = last_cell k p (c ∷ u) row (subst (λ y. IsRow k p y row) split h) in
    subst (λ y. ((found || marked row (length p)) ≡ true) ↔ FewLeft k (42 ∷ p) y) (sym split) (
      λ e. (few_star k c p u).0 (⊎_elim (λ a. inr (before.0 a)) (λ b. inl (one.0 b)) (or_true found (marked row (length p)) e)),
      λ f. true_or found (marked row (length p)) (⊎_elim (λ a. inr (one.1 a)) (λ b. inl (before.1 b)) ((few_star k c p u).1 f)),
    )

-- no match leaves any number of bytes
pub none_left : (whole : Bool) (p t : List ℕ) (n : ℕ) → n ≡ cond whole 0 (length t) → (FewLeft n p t → ⊥) → (r : List ℕ) → Ends whole p t r → ⊥
none_left true p t n is none r e = none (record { rest = r; leaves = e.leaves; few = let z = ap length (e.all refl) in omega arith })
none_left false p t n is none r e = none (record { rest = r; leaves = e.leaves; few = let z = ap length e.leaves.split ∙ length-append e.leaves.taken r in omega arith })

-- the least number that is left
pub least_left : (whole : Bool) (p t : List ℕ) (low high : ℕ) → high ≤ low → high ≤ cond whole 0 (length t) → FewLeft high p t → ((k : ℕ) → k < low → FewLeft k p t → ⊥) → IsLongest whole p t high
least_left whole p t low high met cap found none =
    let few = found.few in
    let big : high ≤ length found.rest = ⊎_elim (λ less. absurd (none (length found.rest) (omega arith) (record { rest = found.rest; leaves = found.leaves; few = omega arith }))) (λ more. more) (cases_lt (length found.rest) high) in
    record {
      rest = found.rest;
      ends = record { leaves = found.leaves; all = λ w. nil_from_length found.rest (let z : cond whole 0 (length t) ≡ 0 = ap (λ b. cond b 0 (length t)) w in omega arith) };
      count = omega arith;
      least = λ r e. ⊎_elim (λ less. absurd (none (length r) (omega arith) (record { rest = r; leaves = e.leaves; few = omega arith }))) (λ more. more) (cases_lt (length r) high);
    }

-- the fewest bytes are those that the longest match leaves
pub fewest_is_answer : (whole : Bool) (p t : List ℕ) (most : ℕ) (r : Option ℕ) → most ≡ cond whole 0 (length t) → IfSome r (AreFewest p t most) → IfNone r (FewLeft most p t → ⊥) → IsAnswer whole p t r
fewest_is_answer whole p t most None is some none = none_left whole p t most is none
fewest_is_answer whole p t most (Some n) is some none = let cap = some.cap in least_left whole p t n n (omega arith) (omega arith) some.found some.least
