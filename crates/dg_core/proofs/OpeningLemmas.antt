-- What openings leave out: only tests that are held.
use Rattle.std.proofs.Common.{◌≡◌, ◌≢◌, ◌∙◌, ◌<◌, ◌≤◌, ◌+◌, ◌-◌, ◌++◌, ◌||◌, ℕ, zero, suc, Bool, true, false, cond, List, [], ◌∷◌, length, refl, ap, sym, subst, arith}
use Rattle.std.specs.Prelude.{IfSome, Option, Some, None, Ok, nat_eq, slice_get, slice_set, option_to_list}
use Rattle.std.specs.List.{AllByRecursion, filter, list_any}
use Rattle.std.specs.List.Sorted.{IsStrictlySortedBy}
use Rattle.std.specs.declared.cmp.Ordering.{Ordering}
use Rattle.std.specs.declared.cmp.Ordering.TheVariants.{Less, Equal, Greater}
use Rattle.std.specs.Ordering.{is_eq, nat_cmp}
use Rattle.std.specs.BTreeMap.{is_at}
use Rattle.std.proofs.lemmas.Bool.{eq-eqb, eqb-true, false_from_ne_true, true≢false}
use Rattle.std.proofs.lemmas.Cmp.{ranked}
use Rattle.std.proofs.lemmas.List.{append_assoc}
use Rattle.dg_world.specs.World.{WorldView, edited}
use Rattle.dg_world.specs.declared.edit.Edit.{Edit}
use Rattle.dg_world.specs.declared.test_id.TestId.{TestId}
use Rattle.dg_records.specs.Truth.{RecordView}
use Rattle.dg_index.specs.Index.{is_among}
use Rattle.dg_index.specs.Topic.{touched}
use Rattle.dg_index.specs.Touching.{OnlyTheseRead}
use Rattle.dg_index.proofs.TouchingLemmas.{untouched-holds}
use Rattle.dg_core.specs.Lineup.{ArePlaces, LeadsBack, LeadBack, IsCurrent, IsOpenTo, HoldsElsewhere, OpensAt, Opens, is_open}
use Rattle.dg_core.specs.declared.lineup.Lineup.{Lineup}
use Rattle.dg_core.specs.declared.openings.Openings.{Openings}
use Rattle.dg_core.proofs.PlaceLemmas.{held-at-place, place-there, place-within}

-- what stands at a place that was set, and at another
set-here : {X : Type 0} (xs : List X) (i : ℕ) (x y : X) → slice_get xs i ≡ Some x → slice_get (slice_set xs i y) i ≡ Some y
set-here [] i x y h = cc
set-here (z ∷ zs) zero x y h = refl
set-here (z ∷ zs) (suc i) x y h = set-here zs i x y h

set-elsewhere : {X : Type 0} (xs : List X) (i j : ℕ) (y : X) → j ≢ i → slice_get (slice_set xs i y) j ≡ slice_get xs j
set-elsewhere [] i j y apart = refl
set-elsewhere (z ∷ zs) zero zero y apart = absurd (apart refl)
set-elsewhere (z ∷ zs) zero (suc j) y apart = refl
set-elsewhere (z ∷ zs) (suc i) zero y apart = refl
set-elsewhere (z ∷ zs) (suc i) (suc j) y apart = set-elsewhere zs i j y (λ e. apart (ap suc e))

-- so many first places lead back
abbrev pub FirstLeadBack : List (Option ℕ) → List (Option ℕ) → ℕ → Type 0
FirstLeadBack places positions n = (at : ℕ) → at < n → LeadsBack places positions at

pub leads-more : (places positions : List (Option ℕ)) (i place : ℕ) → slice_get places i ≡ Some (Some place) → slice_get positions place ≡ Some None
    → FirstLeadBack places positions i → FirstLeadBack places (slice_set positions place (Some i)) (i + 1)
leads-more places positions i place here free h at l = step (nat_eq at i) refl
  where
    taken : (n : ℕ) → Some (Some n) ≡ Some None → ⊥
    taken n h = cc

    step : (b : Bool) → nat_eq at i ≡ b → LeadsBack places (slice_set positions place (Some i)) at
    step true e =
        let same : i ≡ at = sym (eqb-true at i e) in
        subst (LeadsBack places (slice_set positions place (Some i))) same (place, here, set-here positions place None (Some i) free)
    step false e =
        let apart : at ≢ i = λ is. true≢false (sym (eq-eqb at i is) ∙ e) in
        let (q, known, back) = h at (omega (arith, l, apart)) in
        (q, known, set-elsewhere positions place q (Some i) (λ is. taken at (sym back ∙ ap (slice_get positions) is ∙ free)) ∙ back)

-- a test at a position that isn't open after an edit is held in the world that it made
pub held-elsewhere : (w v : WorldView) (e : Edit) (s : List RecordView) (ts : List TestId) (ps : List (Option ℕ)) (qs : List ℕ) (o n : Openings) → edited w e ≡ Ok v → ArePlaces s ts ps
    → LeadBack ps o → HoldsElsewhere w s ts o → OpensAt qs o n → OnlyTheseRead (is_among qs) (touched e) s → HoldsElsewhere v s ts n
held-elsewhere w v e s ts ps qs o n made places lead held opens only at t here shut =
    let (place, known, back) = lead at (place-within s ts ps at t places here) in
    let stands = place-there s ts ps at t place places here known in
    let out = false_from_ne_true (is_among qs place) (λ y. true≢false (sym (opens.opened place at y back) ∙ shut)) in
    let was = false_from_ne_true (is_open o at) (λ y. true≢false (sym (opens.stays at y) ∙ shut)) in
    sym (held-at-place v s t place stands) ∙ untouched-holds w v e (is_among qs) s place made only out ∙ held-at-place w s t place stands ∙ held at t here was

-- so a lineup that was opened at what an edit touches stays current
pub open-to : (w : WorldView) (s : List RecordView) (e : Edit) (qs : List ℕ) (l n : Lineup) → IsCurrent w s l → Opens qs l n → OnlyTheseRead (is_among qs) (touched e) s → IsOpenTo e w s n
open-to w s e qs l n c o only =
    record {
      before = record {
        lineup = record {
          tests = o.tests ∙ c.lineup.tests;
          places = subst (λ ts. ArePlaces s ts n.places) (sym o.tests) (subst (ArePlaces s l.tests) (sym o.places_stay) c.lineup.places);
          lead = leads n.openings o.openings;
        };
        held = holds n.openings o.openings;
      };
      after = λ v made. stays v made n.openings o.openings;
    }
  where
    IsOfOld : Openings → Type 0
    IsOfOld m = (p : Openings) × (l.openings ≡ Some p) × OpensAt qs p m

    leads : (x : Option Openings) → IfSome x IsOfOld → IfSome x (LeadBack n.places)
    leads None h = tt
    leads (Some m) (p, is, opens) =
        let old : LeadBack l.places p = subst (λ y. IfSome y (LeadBack l.places)) is c.lineup.lead in
        λ at within. subst (λ ps. LeadsBack ps m.positions at) (sym o.places_stay)
        (subst (λ positions. LeadsBack l.places positions at) (sym opens.positions) (old at (subst (λ ps. at < length ps) o.places_stay within)))

    holds : (x : Option Openings) → IfSome x IsOfOld → IfSome x (HoldsElsewhere w s n.tests)
    holds None h = tt
    holds (Some m) (p, is, opens) =
        let old : HoldsElsewhere w s l.tests p = subst (λ y. IfSome y (HoldsElsewhere w s l.tests)) is c.held in
        λ at t here shut. old at t (sym (ap (λ ts. slice_get ts at) o.tests) ∙ here) (false_from_ne_true (is_open p at) (λ y. true≢false (sym (opens.stays at y) ∙ shut)))

    stays : (v : WorldView) → edited w e ≡ Ok v → (x : Option Openings) → IfSome x IsOfOld → IfSome x (HoldsElsewhere v s n.tests)
    stays v made None h = tt
    stays v made (Some m) (p, is, opens) =
        let lead : LeadBack l.places p = subst (λ y. IfSome y (LeadBack l.places)) is c.lineup.lead in
        let old : HoldsElsewhere w s l.tests p = subst (λ y. IfSome y (HoldsElsewhere w s l.tests)) is c.held in
        subst (λ ts. HoldsElsewhere v s ts m) (sym o.tests) (held-elsewhere w v e s l.tests l.places qs p m made c.lineup.places lead old opens only)

-- numbers that ascend from one
abbrev pub AscendFrom : ℕ → List ℕ → Type 0
AscendFrom first [] = Unit {0}
AscendFrom first (k ∷ ks) = (first ≤ k) × AscendFrom (suc k) ks

less-all : (k : ℕ) (ks : List ℕ) → AllByRecursion (λ y. nat_cmp k y ≡ Less) ks → AllByRecursion (λ y. suc k ≤ y) ks
less-all k [] h = tt
less-all k (y ∷ ys) h =
    let less : k < y = ranked k y Less (sym h.0) in
    (omega (arith, less), less-all k ys h.1)

ascend : (first : ℕ) (ks : List ℕ) → AllByRecursion (λ y. first ≤ y) ks → IsStrictlySortedBy nat_cmp ks → AscendFrom first ks
unfolding IsStrictlySortedBy
ascend first [] from h = tt
ascend first (k ∷ ks) from h = (from.0, ascend (suc k) ks (less-all k ks h.0) h.1)

from-zero : (ks : List ℕ) → AllByRecursion (λ y. 0 ≤ y) ks
from-zero [] = tt
from-zero (k ∷ ks) = (omega arith, from-zero ks)

is_eq-true : (a b : ℕ) → is_eq (nat_cmp a b) ≡ true → a ≡ b
is_eq-true a b h = step (nat_cmp a b) refl h
  where
    step : (o : Ordering) → nat_cmp a b ≡ o → is_eq o ≡ true → a ≡ b
    step Less e g = cc
    step Equal e g = ranked a b Equal (sym e)
    step Greater e g = cc

is_eq-apart : (a b : ℕ) → a ≢ b → is_eq (nat_cmp a b) ≡ false
is_eq-apart a b apart = false_from_ne_true (is_eq (nat_cmp a b)) (λ h. apart (is_eq-true a b h))

-- a number below all isn't among them
below-all : (n first : ℕ) (ks : List ℕ) → n < first → AscendFrom first ks → list_any (is_at (nat_cmp n)) ks ≡ false
below-all n first [] l up = refl
below-all n first (k ∷ ks) l up =
    ap (λ b. b || list_any (is_at (nat_cmp n)) ks) (is_eq-apart n k (λ e. omega (arith, e, l, up.0))) ∙ below-all n (suc k) ks (omega (arith, l, up.0)) up.1

-- those of the tests at some positions that pass a test
abbrev pub picked : (TestId → Bool) → List TestId → List ℕ → List TestId
picked p ts [] = []
picked p ts (at ∷ rest) = filter p (option_to_list (slice_get ts at)) ++ picked p ts rest

-- past the end there are none
picked-past : (p : TestId → Bool) (all : List TestId) (first : ℕ) (ks : List ℕ) → ((at : ℕ) → first ≤ at → slice_get all at ≡ None) → AscendFrom first ks → [] ≡ picked p all ks
picked-past p all first [] none up = refl
picked-past p all first (k ∷ ks) none up =
    picked-past p all (suc k) ks (λ at l. none at (omega (arith, l, up.0))) up.1 ∙ sym (ap (λ o. filter p (option_to_list o) ++ picked p all ks) (none k up.0))

one-more : (b : Bool) (t : TestId) (xs ys : List TestId) → xs ≡ ys → cond b (t ∷ xs) xs ≡ cond b (t ∷ []) [] ++ ys
one-more true t xs ys e = ap (λ l. t ∷ l) e
one-more false t xs ys e = e

ascend-later : (first next : ℕ) (ks : List ℕ) → next ≡ first → AscendFrom (suc first) ks → AscendFrom (suc next) ks
ascend-later first next ks e up = subst (λ n. AscendFrom (suc n) ks) (sym e) up

-- where all others fail a test, those that pass it are at these positions
picked-from : (p : TestId → Bool) (all ts : List TestId) (first : ℕ) (ks : List ℕ) → ((at i : ℕ) → at ≡ first + i → slice_get all at ≡ slice_get ts i) → AscendFrom first ks
    → ((at i : ℕ) (t : TestId) → at ≡ first + i → slice_get ts i ≡ Some t → list_any (is_at (nat_cmp at)) ks ≡ false → p t ≡ false) → filter p ts ≡ picked p all ks
picked-from p all [] first ks same up shut = picked-past p all first ks (λ at l. same at _ (monus at first l)) up
  where
    monus : (at first : ℕ) → first ≤ at → at ≡ first + (at - first)
    monus at first l = omega (arith, l)
picked-from p all (t ∷ ts) first [] same up shut =
    ap (λ b. cond b (t ∷ filter p ts) (filter p ts)) (shut first 0 t (omega arith) refl refl)
    ∙ picked-from p all ts (suc first) [] (λ at i e. same at (suc i) (omega (arith, e))) tt (λ at i u e here out. shut at (suc i) u (omega (arith, e)) here refl)
picked-from p all (t ∷ ts) first (k ∷ ks) same up shut =
    step (nat_eq first k) refl
    (λ from out. picked-from p all ts (suc first) ks (λ at i e. same at (suc i) (omega (arith, e))) from out)
    (λ from out. picked-from p all ts (suc first) (k ∷ ks) (λ at i e. same at (suc i) (omega (arith, e))) from out)
  where
    Fail : List ℕ → Type 0
    Fail ls = (at i : ℕ) (u : TestId) → at ≡ suc first + i → slice_get ts i ≡ Some u → list_any (is_at (nat_cmp at)) ls ≡ false → p u ≡ false

    step : (b : Bool) → nat_eq first k ≡ b → (AscendFrom (suc first) ks → Fail ks → filter p ts ≡ picked p all ks)
        → (AscendFrom (suc first) (k ∷ ks) → Fail (k ∷ ks) → filter p ts ≡ picked p all (k ∷ ks)) → filter p (t ∷ ts) ≡ picked p all (k ∷ ks)
    step true e here later =
        let is : first ≡ k = eqb-true first k e in
        let found : slice_get all k ≡ Some t = same k 0 (omega (arith, is)) in
        let rest = here (ascend-later k first ks is up.1) (λ at i u at_is stands out. shut at (suc i) u (omega (arith, at_is)) stands
        (ap (λ b. b || list_any (is_at (nat_cmp at)) ks) (is_eq-apart at k (λ x. omega (arith, x, at_is, is))) ∙ out)) in
        one-more (p t) t (filter p ts) (picked p all ks) rest ∙ sym (ap (λ o. filter p (option_to_list o) ++ picked p all ks) found)
    step false e here later =
        let apart : first ≢ k = λ x. true≢false (sym (eq-eqb first k x) ∙ e) in
        let less : suc first ≤ k = omega (arith, up.0, apart) in
        let fails : p t ≡ false = shut first 0 t (omega arith) refl (below-all first (suc first) (k ∷ ks) (omega arith) (less, up.1)) in
        ap (λ b. cond b (t ∷ filter p ts) (filter p ts)) fails ∙ later (less, up.1) (λ at i u at_is stands out. shut at (suc i) u (omega (arith, at_is)) stands out)

pub picked-all : (p : TestId → Bool) (ts : List TestId) (ks : List ℕ) → IsStrictlySortedBy nat_cmp ks
    → ((at : ℕ) (t : TestId) → slice_get ts at ≡ Some t → list_any (is_at (nat_cmp at)) ks ≡ false → p t ≡ false) → filter p ts ≡ picked p ts ks
picked-all p ts ks sorted shut =
    picked-from p ts ts 0 ks (λ at i e. ap (slice_get ts) (e ∙ omega arith)) (ascend 0 ks (from-zero ks) sorted)
    (λ at i t e here out. shut at t (ap (slice_get ts) (e ∙ omega arith) ∙ here) out)

-- one position more was looked at
pub picked-more : (p : TestId → Bool) (ts l m all : List TestId) (at : ℕ) (left rest : List ℕ) → left ≡ at ∷ rest → m ≡ l ++ filter p (option_to_list (slice_get ts at)) → l ++ picked p ts left ≡ all
    → m ++ picked p ts rest ≡ all
picked-more p ts l m all at left rest next more h =
    ap (λ x. x ++ picked p ts rest) more ∙ append_assoc l (filter p (option_to_list (slice_get ts at))) (picked p ts rest) ∙ ap (λ x. l ++ picked p ts x) (sym next) ∙ h
