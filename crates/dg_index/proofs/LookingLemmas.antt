-- Records that are looked at again, place by place.
use Rattle.std.proofs.Common.{◌≡◌, ◌≢◌, ◌∙◌, ◌<◌, ◌+◌, ◌||◌, ℕ, zero, suc, Bool, true, false, cond, List, [], ◌∷◌, length, take, get_or, refl, ap, sym, arith, add-one, ◌≤◌}
use Rattle.std.specs.Prelude.{Some, None, slice_get, nat_eq}
use Rattle.std.specs.List.{IsDistinct}
use Rattle.std.specs.Map.{values_of}
use Rattle.indexmap.specs.IndexMap.{set_value_at}
use Rattle.std.proofs.lemmas.Bool.{eq-eqb, eqb-true, false≢true}
use Rattle.std.proofs.lemmas.List.Sums.{sum_by-cons}
use Rattle.std.proofs.lemmas.Map.Keys.{apart_from_distinct}
use Rattle.std.proofs.lemmas.List.Folds.{list_any_more}
use Rattle.dg_world.specs.World.{WorldView}
use Rattle.dg_world.specs.declared.question.Read.{Read}
use Rattle.dg_world.specs.declared.test_id.TestId.{TestId}
use Rattle.dg_records.specs.Truth.{RecordView}
use Rattle.dg_index.specs.Topic.{is_on}
use Rattle.dg_index.specs.Marks.{MarkedView, looked_again, looked, all_looked, shelf_of, reads_on, reads_of, is_stale}
use Rattle.dg_index.specs.Index.{is_among, NoneElseReads}
use Rattle.dg_index.specs.declared.topic.Topic.{Topic}

-- reads none of which is on a topic
pub looked_again-none : (w : WorldView) (t : Topic) (rs : List Read) (ms : List Bool) → reads_on t rs ≡ 0 → looked_again w t rs ms ≡ ms
looked_again-none w t [] ms h = refl
looked_again-none w t (r ∷ rs) [] h = refl
looked_again-none w t (r ∷ rs) (m ∷ ms) h =
    step (is_on t r.question) (sym (sum_by-cons (λ (x : Read). cond (is_on t x.question) 1 0) r rs) ∙ h) (looked_again-none w t rs ms)
  where
    step : (b : Bool) → cond b 1 0 + reads_on t rs ≡ 0 → (reads_on t rs ≡ 0 → looked_again w t rs ms ≡ ms) → cond b (is_stale w r) m ∷ looked_again w t rs ms ≡ m ∷ ms
    step true e ih = absurd (omega (arith, e))
    step false e ih = ap (λ l. m ∷ l) (ih (omega (arith, e)))

-- one place more passes a test
pub record Steps (f g : ℕ → Bool) (p : ℕ) : Type 0 where
  pub before : f p ≡ false
  pub after : g p ≡ true
  pub others : (k : ℕ) → k ≢ p → g k ≡ f k

suc-apart : (k p : ℕ) → k ≢ p → suc k ≢ suc p
suc-apart k p h e = h (omega (arith, e))

steps-suc : (f g : ℕ → Bool) (p : ℕ) → Steps f g (suc p) → Steps (λ k. f (suc k)) (λ k. g (suc k)) p
steps-suc f g p s = record { before = s.before; after = s.after; others = λ k h. s.others (suc k) (suc-apart k p h) }

module _ (w : WorldView) (t : Topic) where
  -- the records once those whose place passes the test were looked at
  abbrev pub looked_where : (ℕ → Bool) → List (TestId × MarkedView) → List (TestId × MarkedView)
  looked_where f [] = []
  looked_where f (e ∷ es) = (e.0, cond (f zero) (looked w t e.1) e.1) ∷ looked_where (λ k. f (suc k)) es

  -- and how many reads of theirs are on the topic
  abbrev pub read_where : (ℕ → Bool) → List (TestId × MarkedView) → ℕ
  read_where f [] = 0
  read_where f (e ∷ es) = cond (f zero) (reads_on t e.1.record_of.reads) 0 + read_where (λ k. f (suc k)) es

  pub none_looked : (es : List (TestId × MarkedView)) → looked_where (λ k. false) es ≡ es
  none_looked [] = refl
  none_looked (e ∷ es) = ap (λ l. e ∷ l) (none_looked es)

  pub none_read : (es : List (TestId × MarkedView)) → read_where (λ k. false) es ≡ 0
  none_read [] = refl
  none_read (e ∷ es) = omega (arith, none_read es)

  -- what one place more makes of them
  pub looked-found : (es : List (TestId × MarkedView)) (f g : ℕ → Bool) (p : ℕ) (m : MarkedView) → Steps f g p → Some m ≡ slice_get (values_of (looked_where f es)) p
      → (set_value_at (looked_where f es) p (looked w t m) ≡ looked_where g es) × (read_where g es ≡ read_where f es + reads_on t m.record_of.reads)
  looked-found [] f g p m s h = cc
  looked-found (e ∷ es) f g zero m s h =
      let rest : ◌≡◌ {A = ℕ → Bool} (λ k. f (suc k)) (λ k. g (suc k)) = λ i k. sym (s.others (suc k) (λ (z : suc k ≡ zero). absurd (omega (arith, z)))) i in
      let at : Some m ≡ Some e.1 = h ∙ ap (λ b. Some (cond b (looked w t e.1) e.1)) s.before in
      let same : m ≡ e.1 = cc in
      let now : looked w t m ≡ cond (g zero) (looked w t e.1) e.1 = ap (looked w t) same ∙ sym (ap (λ b. cond b (looked w t e.1) e.1) s.after) in
      let one : cond (f zero) (reads_on t e.1.record_of.reads) 0 ≡ 0 = ap (λ b. cond b (reads_on t e.1.record_of.reads) 0) s.before in
      let two : cond (g zero) (reads_on t e.1.record_of.reads) 0 ≡ reads_on t m.record_of.reads =
      ap (λ b. cond b (reads_on t e.1.record_of.reads) 0) s.after ∙ ap (λ (x : MarkedView). reads_on t x.record_of.reads) (sym same) in
      let left : read_where (λ k. f (suc k)) es ≡ read_where (λ k. g (suc k)) es = ap (λ x. read_where x es) rest in
      (λ i. (e.0, now i) ∷ looked_where (rest i) es, omega (arith, one, two, left))
  looked-found (e ∷ es) f g (suc p) m s h =
      let head : g zero ≡ f zero = s.others zero (λ (z : zero ≡ suc p). absurd (omega (arith, z))) in
      let ih = looked-found es (λ k. f (suc k)) (λ k. g (suc k)) p m (steps-suc f g p s) h in (
        λ i. (e.0, cond (sym head i) (looked w t e.1) e.1) ∷ ih.0 i,
        omega (arith, ap (λ b. cond b (reads_on t e.1.record_of.reads) 0) head, ih.1),
      )

  pub looked-past : (es : List (TestId × MarkedView)) (f g : ℕ → Bool) (p : ℕ) → Steps f g p → None ≡ slice_get (values_of (looked_where f es)) p
      → (looked_where f es ≡ looked_where g es) × (read_where g es ≡ read_where f es)
  looked-past [] f g p s h = (refl, refl)
  looked-past (e ∷ es) f g zero s h = cc
  looked-past (e ∷ es) f g (suc p) s h =
      let head : g zero ≡ f zero = s.others zero (λ (z : zero ≡ suc p). absurd (omega (arith, z))) in
      let ih = looked-past es (λ k. f (suc k)) (λ k. g (suc k)) p (steps-suc f g p s) h in (
        λ i. (e.0, cond (sym head i) (looked w t e.1) e.1) ∷ ih.0 i,
        omega (arith, ap (λ b. cond b (reads_on t e.1.record_of.reads) 0) head, ih.1),
      )

  -- where the others read nothing on the topic, all were looked at
  pub looked-all : (es : List (TestId × MarkedView)) (f : ℕ → Bool) → NoneElseReads f t es → (looked_where f es ≡ all_looked w t es) × (read_where f es ≡ reads_of t (shelf_of es))
  looked-all [] f h = (refl, refl)
  looked-all (e ∷ es) f h =
      let ih = looked-all es (λ k. f (suc k)) h.1 in
      let here = one (f zero) h.0 in (
        λ i. (e.0, here.0 i) ∷ ih.0 i,
        omega (arith, here.1, ih.1, sum_by-cons (λ (r : RecordView). reads_on t r.reads) e.1.record_of (shelf_of es)),
      )
    where
      one : (b : Bool) → (b ≡ false → reads_on t e.1.record_of.reads ≡ 0) → (cond b (looked w t e.1) e.1 ≡ looked w t e.1) × (cond b (reads_on t e.1.record_of.reads) 0 ≡ reads_on t e.1.record_of.reads)
      one true g = (refl, refl)
      one false g = (λ i. record e.1 { marks = sym (looked_again-none w t e.1.record_of.reads e.1.marks (g refl)) i }, sym (g refl))

-- distinct places: none stands before itself
other_place : (p q : ℕ) → nat_eq q p ≡ false → nat_eq p q ≡ false
other_place p q h = step (nat_eq p q) refl
  where
    step : (b : Bool) → nat_eq p q ≡ b → nat_eq p q ≡ false
    step true e = absurd (false≢true (sym h ∙ eq-eqb q p (sym (eqb-true p q e))))
    step false e = e

once_before : (places : List ℕ) (i n d : ℕ) → IsDistinct nat_eq places → i < length places → n ≤ i → is_among (take n places) (get_or places i d) ≡ false
once_before places i zero d once lt le = refl
once_before places i (suc n) d once lt le =
    ap (λ m. is_among (take m places) (get_or places i d)) (sym (add-one n)) ∙ list_any_more (nat_eq (get_or places i d)) places n d (omega (arith, lt, le))
    ∙ ap (λ b. b || nat_eq (get_or places i d) (get_or places n d)) (once_before places i n d once lt (omega (arith, le)))
    ∙ other_place (get_or places i d) (get_or places n d) (apart_from_distinct nat_eq places n i d once (omega (arith, le)) lt)

fails : (b : Bool) → (b ≡ true → ⊥) → b ≡ false
fails true h = absurd (h refl)
fails false h = refl

-- the next place is one more
pub places-step : (places : List ℕ) (i : ℕ) → IsDistinct nat_eq places → i < length places → Steps (is_among (take i places)) (is_among (take (i + 1) places)) (get_or places i 0)
places-step places i once lt = record {
  before = once_before places i i 0 once lt (omega arith);
  after = more (get_or places i 0) ∙ ap (λ b. is_among (take i places) (get_or places i 0) || b) (eq-eqb (get_or places i 0) (get_or places i 0) refl) ∙ or_true (is_among (take i places) (get_or places i 0));
  others = λ k h. more k ∙ ap (λ b. is_among (take i places) k || b) (fails (nat_eq k (get_or places i 0)) (λ e. h (eqb-true k (get_or places i 0) e))) ∙ or_false (is_among (take i places) k);
}
  where
    more : (k : ℕ) → is_among (take (i + 1) places) k ≡ (is_among (take i places) k || nat_eq k (get_or places i 0))
    more k = list_any_more (nat_eq k) places i 0 lt

    or_true : (b : Bool) → (b || true) ≡ true
    or_true true = refl
    or_true false = refl

    or_false : (b : Bool) → (b || false) ≡ b
    or_false true = refl
    or_false false = refl
