-- A shelf as a map and as a list.
use Rattle.std.proofs.Common.{◌≡◌, Bool, true, false, cond, List, [], ◌∷◌, refl, ap, sym, subst, ◌∙◌, map}
use Rattle.std.specs.Prelude.{Option, None, Some}
use Rattle.std.proofs.lemmas.Bool.{and_parts, and_from}
use Rattle.std.specs.List.{list_all}
use Rattle.std.specs.Map.{lookup, set_value, remove_entry}
use Rattle.std.specs.Cmp.Lexicographic.{bytes_decides}
use Rattle.indexmap.specs.IndexMap.{insert_entry}
use Rattle.dg_world.specs.declared.test_id.TestId.{TestId}
use Rattle.dg_records.specs.Truth.{RecordView}
use Rattle.dg_records.specs.Shelf.{kept, with_record, Exchanges}
use Rattle.dg_world.specs.Test.{same_test}

abbrev pub Entries : Type 0
Entries = List (TestId × RecordView)

-- each record stands under its test
abbrev pub keyed : TestId × RecordView → Bool
keyed e = same_test e.0 e.1.test

pub same_test-true : (a b : TestId) → same_test a b ≡ true → a ≡ b
same_test-true a b h =
    let p = and_parts _ _ h in
    λ i. record { board = (bytes_decides a.board b.board).0 p.1 i; script = (bytes_decides a.script b.script).0 p.0 i }

pub same_test-refl : (a b : TestId) → a ≡ b → same_test a b ≡ true
same_test-refl a b e =
    and_from _ _ ((bytes_decides a.script b.script).1 (ap (λ t. t.script) e)) ((bytes_decides a.board b.board).1 (ap (λ t. t.board) e))

pub lookup-kept : (es : Entries) (t : TestId) → list_all keyed es ≡ true → lookup (same_test t) es ≡ kept (map (λ e. e.1) es) t
lookup-kept [] t h = refl
lookup-kept (e ∷ es) t h =
    let p = and_parts _ _ h in
    let key : same_test t e.0 ≡ same_test t e.1.test = ap (same_test t) (same_test-true e.0 e.1.test p.0) in
    ap (λ b. cond b (Some e.1) (lookup (same_test t) es)) key ∙ ap (λ o. cond (same_test t e.1.test) (Some e.1) o) (lookup-kept es t p.1)

pub insert-with_record : (es : Entries) (k : TestId) (r : RecordView) → k ≡ r.test → list_all keyed es ≡ true
    → map (λ e. e.1) (insert_entry same_test es k r) ≡ with_record (map (λ e. e.1) es) r
insert-with_record [] k r e h = refl
insert-with_record (x ∷ xs) k r e h =
    let p = and_parts _ _ h in
    let key : same_test k x.0 ≡ same_test r.test x.1.test = ap (λ t. same_test t x.0) e ∙ ap (same_test r.test) (same_test-true x.0 x.1.test p.0) in
    step (same_test k x.0) (same_test r.test x.1.test) key (insert-with_record xs k r e p.1)
  where
    step : (a b : Bool) → a ≡ b → map (λ e. e.1) (insert_entry same_test xs k r) ≡ with_record (map (λ e. e.1) xs) r
        → map (λ e. e.1) (cond a ((x.0, r) ∷ xs) (x ∷ insert_entry same_test xs k r)) ≡ cond b (r ∷ map (λ e. e.1) xs) (x.1 ∷ with_record (map (λ e. e.1) xs) r)
    step true true e ih = refl
    step false false e ih = ap (λ l. x.1 ∷ l) ih
    step true false e ih = cc
    step false true e ih = cc

pub insert-keyed : (es : Entries) (k : TestId) (r : RecordView) → k ≡ r.test → list_all keyed es ≡ true → list_all keyed (insert_entry same_test es k r) ≡ true
insert-keyed [] k r e h = and_from _ _ (same_test-refl k r.test e) refl
insert-keyed (x ∷ xs) k r e h =
    let p = and_parts _ _ h in
    step (same_test k x.0) refl p (insert-keyed xs k r e p.1)
  where
    step : (a : Bool) → same_test k x.0 ≡ a → (keyed x ≡ true) × (list_all keyed xs ≡ true) → list_all keyed (insert_entry same_test xs k r) ≡ true
        → list_all keyed (cond a ((x.0, r) ∷ xs) (x ∷ insert_entry same_test xs k r)) ≡ true
    step true e' p ih = and_from _ _ (same_test-refl x.0 r.test (sym (same_test-true k x.0 e') ∙ e)) p.1
    step false e' p ih = and_from _ _ p.0 ih

some-equal : (x y : RecordView) → Some x ≡ Some y → x ≡ y
some-equal x y h = cc

-- the kept record of a test is of that test
pub kept-test : (s : List RecordView) (t : TestId) (r : RecordView) → kept s t ≡ Some r → r.test ≡ t
kept-test [] t r h = cc
kept-test (x ∷ xs) t r h = step (same_test t x.test) refl h (kept-test xs t r)
  where
    step : (b : Bool) → same_test t x.test ≡ b → cond b (Some x) (kept xs t) ≡ Some r → (kept xs t ≡ Some r → r.test ≡ t) → r.test ≡ t
    step true e g ih = ap (λ y. y.test) (sym (some-equal x r g)) ∙ sym (same_test-true t x.test e)
    step false e g ih = ih g

-- with a record in the place of the first one of a test
abbrev replaced : List RecordView → TestId → RecordView → List RecordView
replaced [] t r = []
replaced (x ∷ xs) t r = cond (same_test t x.test) (r ∷ xs) (x ∷ replaced xs t r)

-- without the first record of a test
abbrev removed : List RecordView → TestId → List RecordView
removed [] t = []
removed (x ∷ xs) t = cond (same_test t x.test) xs (x ∷ removed xs t)

set_value-replaced : (es : Entries) (t : TestId) (r : RecordView) → list_all keyed es ≡ true → map (λ e. e.1) (set_value (same_test t) es r) ≡ replaced (map (λ e. e.1) es) t r
set_value-replaced [] t r h = refl
set_value-replaced (x ∷ xs) t r h =
    let p = and_parts _ _ h in
    step (same_test t x.0) (same_test t x.1.test) (ap (same_test t) (same_test-true x.0 x.1.test p.0)) (set_value-replaced xs t r p.1)
  where
    step : (a b : Bool) → a ≡ b → map (λ e. e.1) (set_value (same_test t) xs r) ≡ replaced (map (λ e. e.1) xs) t r
        → map (λ e. e.1) (cond a ((x.0, r) ∷ xs) (x ∷ set_value (same_test t) xs r)) ≡ cond b (r ∷ map (λ e. e.1) xs) (x.1 ∷ replaced (map (λ e. e.1) xs) t r)
    step true true e ih = refl
    step false false e ih = ap (λ l. x.1 ∷ l) ih
    step true false e ih = cc
    step false true e ih = cc

remove_entry-removed : (es : Entries) (t : TestId) → list_all keyed es ≡ true → map (λ e. e.1) (remove_entry (same_test t) es) ≡ removed (map (λ e. e.1) es) t
remove_entry-removed [] t h = refl
remove_entry-removed (x ∷ xs) t h =
    let p = and_parts _ _ h in
    step (same_test t x.0) (same_test t x.1.test) (ap (same_test t) (same_test-true x.0 x.1.test p.0)) (remove_entry-removed xs t p.1)
  where
    step : (a b : Bool) → a ≡ b → map (λ e. e.1) (remove_entry (same_test t) xs) ≡ removed (map (λ e. e.1) xs) t
        → map (λ e. e.1) (cond a xs (x ∷ remove_entry (same_test t) xs)) ≡ cond b (map (λ e. e.1) xs) (x.1 ∷ removed (map (λ e. e.1) xs) t)
    step true true e ih = refl
    step false false e ih = ap (λ l. x.1 ∷ l) ih
    step true false e ih = cc
    step false true e ih = cc

pub set_value-keyed : (es : Entries) (t : TestId) (r : RecordView) → t ≡ r.test → list_all keyed es ≡ true → list_all keyed (set_value (same_test t) es r) ≡ true
set_value-keyed [] t r e h = refl
set_value-keyed (x ∷ xs) t r e h = let p = and_parts _ _ h in step (same_test t x.0) refl p (set_value-keyed xs t r e p.1)
  where
    step : (a : Bool) → same_test t x.0 ≡ a → (keyed x ≡ true) × (list_all keyed xs ≡ true) → list_all keyed (set_value (same_test t) xs r) ≡ true
        → list_all keyed (cond a ((x.0, r) ∷ xs) (x ∷ set_value (same_test t) xs r)) ≡ true
    step true e' p ih = and_from _ _ (same_test-refl x.0 r.test (sym (same_test-true t x.0 e') ∙ e)) p.1
    step false e' p ih = and_from _ _ p.0 ih

pub remove_entry-keyed : (es : Entries) (t : TestId) → list_all keyed es ≡ true → list_all keyed (remove_entry (same_test t) es) ≡ true
remove_entry-keyed [] t h = refl
remove_entry-keyed (x ∷ xs) t h = let p = and_parts _ _ h in step (same_test t x.0) p (remove_entry-keyed xs t p.1)
  where
    step : (a : Bool) → (keyed x ≡ true) × (list_all keyed xs ≡ true) → list_all keyed (remove_entry (same_test t) xs) ≡ true
        → list_all keyed (cond a xs (x ∷ remove_entry (same_test t) xs)) ≡ true
    step true p ih = p.1
    step false p ih = and_from _ _ p.0 ih

-- a record that was just kept is its test's
kept-with_record : (s : List RecordView) (r : RecordView) → kept (with_record s r) r.test ≡ Some r
kept-with_record [] r = ap (λ b. cond b (Some r) None) (same_test-refl r.test r.test refl)
kept-with_record (x ∷ xs) r = step (same_test r.test x.test) refl (kept-with_record xs r)
  where
    step : (b : Bool) → same_test r.test x.test ≡ b → kept (with_record xs r) r.test ≡ Some r
        → kept (cond b (r ∷ xs) (x ∷ with_record xs r)) r.test ≡ Some r
    step true e ih = ap (λ a. cond a (Some r) (kept xs r.test)) (same_test-refl r.test r.test refl)
    step false e ih = ap (λ a. cond a (Some x) (kept (with_record xs r) r.test)) e ∙ ih

-- the record that the test had, in the place of the one that was kept
replaced-with_record : (s : List RecordView) (r p : RecordView) → kept s r.test ≡ Some p → replaced (with_record s r) r.test p ≡ s
replaced-with_record [] r p h = cc
replaced-with_record (x ∷ xs) r p h = step (same_test r.test x.test) refl h (replaced-with_record xs r p)
  where
    step : (b : Bool) → same_test r.test x.test ≡ b → cond b (Some x) (kept xs r.test) ≡ Some p → (kept xs r.test ≡ Some p → replaced (with_record xs r) r.test p ≡ xs)
        → replaced (cond b (r ∷ xs) (x ∷ with_record xs r)) r.test p ≡ x ∷ xs
    step true e g ih =
        ap (λ a. cond a (p ∷ xs) (r ∷ replaced xs r.test p)) (same_test-refl r.test r.test refl) ∙ ap (λ y. y ∷ xs) (sym (some-equal x p g))
    step false e g ih = ap (λ a. cond a (p ∷ with_record xs r) (x ∷ replaced (with_record xs r) r.test p)) e ∙ ap (λ l. x ∷ l) (ih g)

-- and where it had none, without the one that was kept
removed-with_record : (s : List RecordView) (r : RecordView) → kept s r.test ≡ None → removed (with_record s r) r.test ≡ s
removed-with_record [] r h = ap (λ b. cond b [] (r ∷ [])) (same_test-refl r.test r.test refl)
removed-with_record (x ∷ xs) r h = step (same_test r.test x.test) refl h (removed-with_record xs r)
  where
    step : (b : Bool) → same_test r.test x.test ≡ b → cond b (Some x) (kept xs r.test) ≡ None → (kept xs r.test ≡ None → removed (with_record xs r) r.test ≡ xs)
        → removed (cond b (r ∷ xs) (x ∷ with_record xs r)) r.test ≡ x ∷ xs
    step true e g ih = cc
    step false e g ih = ap (λ a. cond a (with_record xs r) (x ∷ removed (with_record xs r) r.test)) e ∙ ap (λ l. x ∷ l) (ih g)

-- the test whose record was exchanged has the newest one
pub exchanged-lookup : (before after : List RecordView) (es : Entries) (newest : RecordView) (previous : Option RecordView) (t : TestId) → list_all keyed es ≡ true → map (λ e. e.1) es ≡ after
    → newest.test ≡ t → Exchanges before newest previous after → lookup (same_test t) es ≡ Some newest
exchanged-lookup before after es newest previous t k v e x =
    lookup-kept es t k ∙ ap (λ s. kept s t) v ∙ subst (λ u. kept after u ≡ Some newest) e (ap (λ s. kept s newest.test) x.shelf ∙ kept-with_record before newest)

pub newest-found : (newest : RecordView) (o : Option RecordView) → o ≡ Some newest → o ≡ None → ⊥
newest-found newest o h n = cc

pub newest-is : (newest r : RecordView) (o : Option RecordView) → o ≡ Some newest → Some r ≡ o → r ≡ newest
newest-is newest r o h e = some-equal r newest (e ∙ h)

-- the record that the test had is of that test
pub exchanged-test : (before after : List RecordView) (newest p : RecordView) (previous : Option RecordView) (t : TestId) → previous ≡ Some p → newest.test ≡ t → Exchanges before newest previous after → t ≡ p.test
exchanged-test before after newest p previous t s e x = sym (kept-test before newest.test p (sym x.had ∙ s) ∙ e)

-- an exchange is undone: by the record that the test had
pub undone-by_record : (before after : List RecordView) (es : Entries) (newest p : RecordView) (previous : Option RecordView) (t : TestId) → list_all keyed es ≡ true → map (λ e. e.1) es ≡ after
    → previous ≡ Some p → newest.test ≡ t → Exchanges before newest previous after → map (λ e. e.1) (set_value (same_test t) es p) ≡ before
undone-by_record before after es newest p previous t k v s e x =
    subst (λ u. map (λ e. e.1) (set_value (same_test u) es p) ≡ before) e
    (set_value-replaced es newest.test p k ∙ ap (λ l. replaced l newest.test p) (v ∙ x.shelf) ∙ replaced-with_record before newest p (sym x.had ∙ s))

-- and where it had none, by a removal
pub undone-by_removal : (before after : List RecordView) (es : Entries) (newest : RecordView) (previous : Option RecordView) (t : TestId) → list_all keyed es ≡ true → map (λ e. e.1) es ≡ after
    → previous ≡ None → newest.test ≡ t → Exchanges before newest previous after → map (λ e. e.1) (remove_entry (same_test t) es) ≡ before
undone-by_removal before after es newest previous t k v n e x =
    subst (λ u. map (λ e. e.1) (remove_entry (same_test u) es) ≡ before) e
    (remove_entry-removed es newest.test k ∙ ap (λ l. removed l newest.test) (v ∙ x.shelf) ∙ removed-with_record before newest (sym x.had ∙ n))
