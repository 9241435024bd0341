-- What kept records keep.
use Rattle.std.proofs.Common.{◌≡◌, ◌∙◌, ◌+◌, ◌++◌, ℕ, zero, suc, Bool, true, false, cond, List, [], ◌∷◌, length, refl, ap, sym, subst, arith}
use Rattle.std.specs.Prelude.{Option, Some, None, Result, Ok, nat_eq, ◌<◌, ◌^◌, not, option_map, slice_get, unwrap_or, position, ◌&&◌}
use Rattle.std.specs.List.{list_all, position_or_len, IsDistinct}
use Rattle.std.specs.Borrow.{Bor}
use Rattle.std.specs.Map.{keys_of}
use Rattle.std.proofs.lemmas.Bool.{and_parts, and_from, false≢true}
use Rattle.std.proofs.lemmas.List.Sums.{sum_by-cons}
use Rattle.indexmap.specs.IndexMap.{insert_entry, set_value_at}
use Rattle.indexmap.proofs.MapLemmas.{Found-position, Missing-position, insert_entry-first, insert_entry-absent}
use Rattle.dg_world.specs.Test.{same_test}
use Rattle.dg_world.specs.World.{WorldView, look, recorded}
use Rattle.dg_world.specs.declared.question.Question.{Question}
use Rattle.dg_world.specs.declared.question.Answer.{Answer}
use Rattle.dg_world.specs.declared.question.Read.{Read}
use Rattle.dg_world.specs.declared.refusal.Refusal.{Refusal}
use Rattle.dg_world.specs.declared.test_id.TestId.{TestId}
use Rattle.dg_records.specs.Truth.{RecordView, is_given}
use Rattle.dg_records.specs.Shelf.{with_record}
use Rattle.dg_records.proofs.ShelfLemmas.{same_test-true, same_test-refl}
use Rattle.dg_index.specs.Topic.{is_on, topic_of}
use Rattle.dg_index.specs.Marks.{MarkedView, judged_of, is_stale, is_clear, marks_in, looked, looked_again, all_looked, shelf_of, reads_on, reads_of, counted}
use Rattle.dg_index.specs.Index.{IndexView, readers_of, is_among, NamesMore, NamesReads, NamesAll, NoneElseReads, Finds}
use Rattle.dg_index.specs.Kept.{IsKept, AllMarked, is_keyed, holds_if_kept, place_of, changed, after_asking, committed_live, then_committed}
use Rattle.dg_index.specs.declared.topic.Topic.{Topic}
use Rattle.dg_index.specs.declared.topic.Topic.TheVariants as topic
use Rattle.dg_transcript.specs.declared.entry.Entry.{Entry}
use Rattle.dg_index.proofs.TopicLemmas.{recorded-look}
use Rattle.dg_index.proofs.IndexLemmas.{same_topic-true, names-more}
use Rattle.dg_index.proofs.LookingLemmas.{looked-all, none_looked, none_read}

abbrev pub Entries : Type 0
Entries = List (TestId × MarkedView)

-- a key is the test of its record
same_key : (e : TestId × MarkedView) (t : TestId) → is_keyed e ≡ true → same_test t e.1.record_of.test ≡ same_test t e.0
same_key e t h = sym (ap (same_test t) (same_test-true e.0 e.1.record_of.test h))

-- the place of a test's record is that of its key
place-found : (es : Entries) (t : TestId) → list_all is_keyed es ≡ true → position_or_len (same_test t) (keys_of es) < length es
    → place_of (shelf_of es) t ≡ Some (position_or_len (same_test t) (keys_of es))
place-found [] t h l = absurd (omega (arith, l))
place-found (e ∷ es) t h l =
    let p = and_parts _ _ h in
    step (same_test t e.0) refl (same_key e t p.0) l (place-found es t p.1)
  where
    step : (b : Bool) → same_test t e.0 ≡ b → same_test t e.1.record_of.test ≡ same_test t e.0
        → cond (not b) (1 + position_or_len (same_test t) (keys_of es)) 0 < length (e ∷ es)
        → (position_or_len (same_test t) (keys_of es) < length es → place_of (shelf_of es) t ≡ Some (position_or_len (same_test t) (keys_of es)))
        → place_of (shelf_of (e ∷ es)) t ≡ Some (cond (not b) (1 + position_or_len (same_test t) (keys_of es)) 0)
    step true here key g ih = ap (λ b. cond b (Some 0) (option_map suc (place_of (shelf_of es) t))) (key ∙ here)
    step false here key g ih =
        ap (λ b. cond b (Some 0) (option_map suc (place_of (shelf_of es) t))) (key ∙ here) ∙ ap (option_map suc) (ih (omega (arith, g))) ∙ ap Some (omega arith)

place-missing : (es : Entries) (t : TestId) → list_all is_keyed es ≡ true → position_or_len (same_test t) (keys_of es) ≡ length es → place_of (shelf_of es) t ≡ None
place-missing [] t h l = refl
place-missing (e ∷ es) t h l =
    let p = and_parts _ _ h in
    step (same_test t e.0) refl (same_key e t p.0) l (place-missing es t p.1)
  where
    step : (b : Bool) → same_test t e.0 ≡ b → same_test t e.1.record_of.test ≡ same_test t e.0
        → cond (not b) (1 + position_or_len (same_test t) (keys_of es)) 0 ≡ length (e ∷ es)
        → (position_or_len (same_test t) (keys_of es) ≡ length es → place_of (shelf_of es) t ≡ None)
        → place_of (shelf_of (e ∷ es)) t ≡ None
    step true here key g ih = absurd (omega (arith, g))
    step false here key g ih =
        ap (λ b. cond b (Some 0) (option_map suc (place_of (shelf_of es) t))) (key ∙ here) ∙ ap (option_map suc) (ih (omega (arith, g)))

pub place-keyed : (es : Entries) (t : TestId) → list_all is_keyed es ≡ true → position (same_test t) (keys_of es) ≡ place_of (shelf_of es) t
place-keyed es t h = step (position (same_test t) (keys_of es)) refl
  where
    step : (o : Option ℕ) → position (same_test t) (keys_of es) ≡ o → o ≡ place_of (shelf_of es) t
    step None e = sym (place-missing es t h (Missing-position (same_test t) es e).or_len)
    step (Some i) e =
        let f = Found-position (same_test t) es i e in
        ap Some (sym f.or_len) ∙ sym (place-found es t h (subst (λ n. n < length es) (sym f.or_len) f.within))

-- the record at a place
pub shelf-at : (es : Entries) (i : ℕ) → slice_get (shelf_of es) i ≡ option_map (λ e. e.1.record_of) (slice_get es i)
shelf-at [] i = refl
shelf-at (e ∷ es) zero = refl
shelf-at (e ∷ es) (suc i) = shelf-at es i

-- its test with its lines
pub judged-at : (es : Entries) (i : ℕ) → option_map judged_of (slice_get (shelf_of es) i) ≡ option_map (λ e. judged_of e.1.record_of) (slice_get es i)
judged-at [] i = refl
judged-at (e ∷ es) zero = refl
judged-at (e ∷ es) (suc i) = judged-at es i

-- and its marks
marks-at : (w : WorldView) (es : Entries) (i : ℕ) (e : TestId × MarkedView) → AllMarked w es → slice_get es i ≡ Some e → e.1.marks ≡ marks_in w e.1.record_of.reads
marks-at w [] i e all h = cc
marks-at w (x ∷ xs) zero e all h =
    let same : x ≡ e = cc in
    subst (λ (y : TestId × MarkedView). y.1.marks ≡ marks_in w y.1.record_of.reads) same all.0
marks-at w (x ∷ xs) (suc i) e all h = marks-at w xs i e all.1 h

-- no mark is raised where the record holds
clear-holds : (w : WorldView) (rs : List Read) → is_clear (marks_in w rs) ≡ list_all (λ read. is_given (look w read.question) read.answer) rs
clear-holds w [] = refl
clear-holds w (r ∷ rs) = step (is_given (look w r.question) r.answer) (clear-holds w rs)
  where
    step : (b : Bool) → is_clear (marks_in w rs) ≡ list_all (λ read. is_given (look w read.question) read.answer) rs
        → (not (not b) && is_clear (marks_in w rs)) ≡ (b && list_all (λ read. is_given (look w read.question) read.answer) rs)
    step true ih = ih
    step false ih = refl

pub held-at : (w : WorldView) (es : Entries) (index : IndexView) (i : ℕ) (e : TestId × MarkedView) → IsKept w es index → slice_get es i ≡ Some e
    → is_clear e.1.marks ≡ holds_if_kept w (slice_get (shelf_of es) i)
held-at w es index i e k at =
    ap is_clear (marks-at w es i e k.marked at) ∙ clear-holds w e.1.record_of.reads
    ∙ sym (ap (holds_if_kept w) (shelf-at es i ∙ ap (option_map (λ (x : TestId × MarkedView). x.1.record_of)) at))

pub none-at : (w : WorldView) (es : Entries) (i : ℕ) → slice_get es i ≡ None → false ≡ holds_if_kept w (slice_get (shelf_of es) i)
none-at w es i at = sym (ap (holds_if_kept w) (shelf-at es i ∙ ap (option_map (λ (x : TestId × MarkedView). x.1.record_of)) at))

-- reads at a place that the index doesn't name for a topic
unread : (index : IndexView) (t : Topic) (place : ℕ) (rs : List Read) → NamesReads index place rs → is_among (readers_of index t) place ≡ false → reads_on t rs ≡ 0
unread index t place [] h none = refl
unread index t place (r ∷ rs) h none = sum_by-cons (λ (x : Read). cond (is_on t x.question) 1 0) r rs ∙ step (is_on t r.question) refl (unread index t place rs h.1 none)
  where
    step : (b : Bool) → is_on t r.question ≡ b → reads_on t rs ≡ 0 → cond b 1 0 + reads_on t rs ≡ 0
    step true on ih =
        absurd (false≢true (sym none ∙ ap (λ x. is_among (readers_of index x) place) (same_topic-true t (topic_of r.question) on) ∙ h.0))
    step false on ih = omega (arith, ih)

-- what the index names is all that reads a topic
only-from : (index : IndexView) (t : Topic) (first : ℕ) (es : Entries) (f : ℕ → Bool) → ((k : ℕ) → f k ≡ is_among (readers_of index t) (first + k)) → NamesAll index first es → NoneElseReads f t es
only-from index t first [] f same h = tt
only-from index t first (e ∷ es) f same h = (
  λ none. unread index t first e.1.record_of.reads h.0 (ap (is_among (readers_of index t)) (omega arith) ∙ sym (same 0) ∙ none),
  only-from index t (suc first) es (λ k. f (suc k)) (λ k. same (suc k) ∙ ap (is_among (readers_of index t)) (omega arith)) h.1,
)

pub only-named : (index : IndexView) (t : Topic) (es : Entries) → NamesAll index 0 es → NoneElseReads (is_among (readers_of index t)) t es
only-named index t es h = only-from index t 0 es (is_among (readers_of index t)) (λ k. ap (is_among (readers_of index t)) (omega arith)) h

-- looking again leaves the tests and the records
looked-keyed : (w : WorldView) (t : Topic) (es : Entries) → list_all is_keyed (all_looked w t es) ≡ list_all is_keyed es
looked-keyed w t [] = refl
looked-keyed w t (e ∷ es) = ap (λ b. is_keyed e && b) (looked-keyed w t es)

pub looked-shelf : (w : WorldView) (t : Topic) (es : Entries) → shelf_of (all_looked w t es) ≡ shelf_of es
looked-shelf w t [] = refl
looked-shelf w t (e ∷ es) = ap (λ l. e.1.record_of ∷ l) (looked-shelf w t es)

looked-named : (w : WorldView) (t : Topic) (index : IndexView) (first : ℕ) (es : Entries) → NamesAll index first es → NamesAll index first (all_looked w t es)
looked-named w t index first [] h = tt
looked-named w t index first (e ∷ es) h = (h.0, looked-named w t index (suc first) es h.1)

-- a world that answers as another does but on a topic
abbrev pub ChangesOnly : WorldView → WorldView → Topic → Type 0
ChangesOnly w v t = (q : Question) → is_on t q ≡ false → look v q ≡ look w q

looked-marks : (w v : WorldView) (t : Topic) (rs : List Read) → ChangesOnly w v t → looked_again v t rs (marks_in w rs) ≡ marks_in v rs
looked-marks w v t [] c = refl
looked-marks w v t (r ∷ rs) c = λ i. step (is_on t r.question) refl i ∷ looked-marks w v t rs c i
  where
    step : (b : Bool) → is_on t r.question ≡ b → cond b (is_stale v r) (is_stale w r) ≡ is_stale v r
    step true on = refl
    step false on = sym (ap (λ o. not (is_given o r.answer)) (c r.question on))

looked-marked : (w v : WorldView) (t : Topic) (es : Entries) → ChangesOnly w v t → AllMarked w es → AllMarked v (all_looked v t es)
looked-marked w v t [] c h = tt
looked-marked w v t (e ∷ es) c h =
    (ap (looked_again v t e.1.record_of.reads) h.0 ∙ looked-marks w v t e.1.record_of.reads c, looked-marked w v t es c h.1)

-- and makes the marks those of the changed world
pub kept-looked : (w v : WorldView) (t : Topic) (es : Entries) (index : IndexView) → ChangesOnly w v t → IsKept w es index → IsKept v (all_looked v t es) index
kept-looked w v t es index c k = record {
  keyed = looked-keyed v t es ∙ k.keyed;
  marked = looked-marked w v t es c k.marked;
  named = looked-named v t index 0 es k.named;
}

-- a topic that nothing reads: there is nothing to look at
unread-all : (w : WorldView) (t : Topic) (es : Entries) (index : IndexView) → NamesAll index 0 es → readers_of index t ≡ [] → NoneElseReads (is_among []) t es
unread-all w t es index h none = subst (λ places. NoneElseReads (is_among places) t es) none (only-named index t es h)

pub nothing-looked : (w : WorldView) (t : Topic) (es : Entries) (index : IndexView) → NamesAll index 0 es → readers_of index t ≡ [] → all_looked w t es ≡ es
nothing-looked w t es index h none = sym (looked-all w t es (is_among []) (unread-all w t es index h none)).0 ∙ none_looked w t es

pub nothing-read : (w : WorldView) (t : Topic) (es : Entries) (index : IndexView) → NamesAll index 0 es → readers_of index t ≡ [] → reads_of t (shelf_of es) ≡ 0
nothing-read w t es index h none = sym (looked-all w t es (is_among []) (unread-all w t es index h none)).1 ∙ none_read w t es

-- an index that names more
named-all-more : (few more : IndexView) (first : ℕ) (es : Entries) → NamesMore few more → NamesAll few first es → NamesAll more first es
named-all-more few more first [] m h = tt
named-all-more few more first (e ∷ es) m h = (names-more few more first e.1.record_of.reads m h.0, named-all-more few more (suc first) es m h.1)

pub kept-more : (w : WorldView) (es fs : Entries) (few more : IndexView) → NamesMore few more → fs ≡ es → IsKept w es few → IsKept w fs more
kept-more w es fs few more m same k =
    subst (λ (l : Entries). IsKept w l more) (sym same) (record { keyed = k.keyed; marked = k.marked; named = named-all-more few more 0 es m k.named })

-- a record that is placed
insert-shelf : (es : Entries) (k : TestId) (m : MarkedView) → k ≡ m.record_of.test → list_all is_keyed es ≡ true → shelf_of (insert_entry same_test es k m) ≡ with_record (shelf_of es) m.record_of
insert-shelf [] k m e h = refl
insert-shelf (x ∷ xs) k m e h =
    let p = and_parts _ _ h in
    let key : same_test k x.0 ≡ same_test m.record_of.test x.1.record_of.test = ap (λ t. same_test t x.0) e ∙ ap (same_test m.record_of.test) (same_test-true x.0 x.1.record_of.test p.0) in
    step (same_test k x.0) (same_test m.record_of.test x.1.record_of.test) key (insert-shelf xs k m e p.1)
  where
    step : (a b : Bool) → a ≡ b → shelf_of (insert_entry same_test xs k m) ≡ with_record (shelf_of xs) m.record_of
        → shelf_of (cond a ((x.0, m) ∷ xs) (x ∷ insert_entry same_test xs k m)) ≡ cond b (m.record_of ∷ shelf_of xs) (x.1.record_of ∷ with_record (shelf_of xs) m.record_of)
    step true true e ih = refl
    step false false e ih = ap (λ l. x.1.record_of ∷ l) ih
    step true false e ih = cc
    step false true e ih = cc

insert-keyed : (es : Entries) (k : TestId) (m : MarkedView) → k ≡ m.record_of.test → list_all is_keyed es ≡ true → list_all is_keyed (insert_entry same_test es k m) ≡ true
insert-keyed [] k m e h = and_from _ _ (same_test-refl k m.record_of.test e) refl
insert-keyed (x ∷ xs) k m e h =
    let p = and_parts _ _ h in
    step (same_test k x.0) refl p (insert-keyed xs k m e p.1)
  where
    step : (a : Bool) → same_test k x.0 ≡ a → (is_keyed x ≡ true) × (list_all is_keyed xs ≡ true) → list_all is_keyed (insert_entry same_test xs k m) ≡ true
        → list_all is_keyed (cond a ((x.0, m) ∷ xs) (x ∷ insert_entry same_test xs k m)) ≡ true
    step true e' p ih = and_from _ _ (same_test-refl x.0 m.record_of.test (sym (same_test-true k x.0 e') ∙ e)) p.1
    step false e' p ih = and_from _ _ p.0 ih

insert-marked : (w : WorldView) (es : Entries) (k : TestId) (m : MarkedView) → m.marks ≡ marks_in w m.record_of.reads → AllMarked w es → AllMarked w (insert_entry same_test es k m)
insert-marked w [] k m here h = (here, tt)
insert-marked w (x ∷ xs) k m here h = step (same_test k x.0) (insert-marked w xs k m here h.1)
  where
    step : (a : Bool) → AllMarked w (insert_entry same_test xs k m) → AllMarked w (cond a ((x.0, m) ∷ xs) (x ∷ insert_entry same_test xs k m))
    step true ih = (here, h.1)
    step false ih = (h.0, ih)

named-last : (index : IndexView) (first : ℕ) (es : Entries) (e : TestId × MarkedView) → NamesAll index first es → NamesReads index (first + length es) e.1.record_of.reads → NamesAll index first (es ++ e ∷ [])
named-last index first [] e h n = (subst (λ place. NamesReads index place e.1.record_of.reads) (omega arith) n, tt)
named-last index first (x ∷ es) e h n =
    (h.0, named-last index (suc first) es e h.1 (subst (λ place. NamesReads index place e.1.record_of.reads) (omega arith) n))

named-at : (index : IndexView) (first : ℕ) (es : Entries) (i : ℕ) (m : MarkedView) → NamesAll index first es → NamesReads index (first + i) m.record_of.reads → NamesAll index first (set_value_at es i m)
named-at index first [] i m h n = tt
named-at index first (x ∷ es) zero m h n = (subst (λ place. NamesReads index place m.record_of.reads) (omega arith) n, h.1)
named-at index first (x ∷ es) (suc i) m h n =
    (h.0, named-at index (suc first) es i m h.1 (subst (λ place. NamesReads index place m.record_of.reads) (omega arith) n))

insert-named : (index : IndexView) (es : Entries) (k : TestId) (m : MarkedView) → NamesAll index 0 es
    → NamesReads index (unwrap_or (position (same_test k) (keys_of es)) (length es)) m.record_of.reads → NamesAll index 0 (insert_entry same_test es k m)
insert-named index es k m h n = step (position (same_test k) (keys_of es)) refl n
  where
    step : (o : Option ℕ) → position (same_test k) (keys_of es) ≡ o → NamesReads index (unwrap_or o (length es)) m.record_of.reads → NamesAll index 0 (insert_entry same_test es k m)
    step None e g =
        subst (NamesAll index 0) (sym (insert_entry-absent same_test k m es (Missing-position (same_test k) es e).absent))
        (named-last index 0 es (k, m) h (subst (λ place. NamesReads index place m.record_of.reads) (omega arith) g))
    step (Some i) e g =
        subst (NamesAll index 0) (sym (insert_entry-first same_test k m es i (Found-position (same_test k) es i e).first))
        (named-at index 0 es i m h (subst (λ place. NamesReads index place m.record_of.reads) (omega arith) g))

-- so a record that is compared with the world and placed is kept
abbrev pub Placed : WorldView → Entries → Entries → IndexView → RecordView → Type 0
Placed w fs gs index r = IsKept w gs index × (shelf_of gs ≡ with_record (shelf_of fs) r)

pub placed : (w : WorldView) (es fs gs : Entries) (index : IndexView) (k : TestId) (m : MarkedView) (r : RecordView) → keys_of fs ≡ keys_of es → length fs ≡ length es
    → k ≡ r.test → m.record_of ≡ r → NamesReads index (unwrap_or (position (same_test r.test) (keys_of es)) (length es)) r.reads
    → gs ≡ insert_entry same_test fs k (record m { marks = marks_in w m.record_of.reads }) → IsKept w fs index → Placed w fs gs index r
placed w es fs gs index k m r keys long test whole names is h =
    let new : MarkedView = record m { marks = marks_in w m.record_of.reads } in
    let key : k ≡ new.record_of.test = test ∙ sym (ap (λ (x : RecordView). x.test) whole) in
    let at : unwrap_or (position (same_test r.test) (keys_of es)) (length es) ≡ unwrap_or (position (same_test k) (keys_of fs)) (length fs) =
    λ i. unwrap_or (position (same_test (sym test i)) (sym keys i)) (sym long i) in
    let named : NamesReads index (unwrap_or (position (same_test k) (keys_of fs)) (length fs)) m.record_of.reads =
    subst (λ (x : RecordView). NamesReads index (unwrap_or (position (same_test k) (keys_of fs)) (length fs)) x.reads) (sym whole)
    (subst (λ n. NamesReads index n r.reads) at names) in (
      subst (λ (l : Entries). IsKept w l index) (sym is) (record {
        keyed = insert-keyed fs k new key h.keyed;
        marked = insert-marked w fs k new refl h.marked;
        named = insert-named index fs k new h.named named;
      }),
      ap shelf_of is ∙ insert-shelf fs k new key h.keyed ∙ ap (with_record (shelf_of fs)) whole,
    )

-- what is found for a topic
pub found-readers : (index : IndexView) (t : Topic) (o : Option (Bor Topic × Bor (List ℕ))) (r : Bor Topic × Bor (List ℕ)) → Finds index t o → o ≡ Some r
    → (r.0.now ≡ t) × (r.1.now ≡ readers_of index t) × IsDistinct nat_eq r.1.now
found-readers index t None r h e = cc
found-readers index t (Some x) r h e =
    let same : x ≡ r = cc in
    subst (λ (y : Bor Topic × Bor (List ℕ)). (y.0.now ≡ t) × (y.1.now ≡ readers_of index t) × IsDistinct nat_eq y.1.now) same h

pub found-nothing : (index : IndexView) (t : Topic) (o : Option (Bor Topic × Bor (List ℕ))) → Finds index t o → o ≡ None → readers_of index t ≡ []
found-nothing index t None h e = h
found-nothing index t (Some x) h e = cc

pub only-found : (index : IndexView) (t found : Topic) (places : List ℕ) (es : Entries) → found ≡ t → places ≡ readers_of index t → NamesAll index 0 es → NoneElseReads (is_among places) found es
only-found index t found places es same are h =
    subst (λ (x : Topic). NoneElseReads (is_among places) x es) (sym same) (subst (λ ps. NoneElseReads (is_among ps) t es) (sym are) (only-named index t es h))

-- the records after a change that touches a topic
abbrev pub Looks : WorldView → Topic → Entries → Entries → ℕ → ℕ → Type 0
Looks v t es fs n m = (fs ≡ all_looked v t es) × (m ≡ counted n (reads_of t (shelf_of es)))

pub looks-found : (v : WorldView) (t found : Topic) (es fs : Entries) (n m : ℕ) → found ≡ t → fs ≡ all_looked v found es → m ≡ counted n (reads_of found (shelf_of es)) → Looks v t es fs n m
looks-found v t found es fs n m same looked count =
    (looked ∙ ap (λ x. all_looked v x es) same, count ∙ ap (λ x. counted n (reads_of x (shelf_of es))) same)

pub looks-nothing : (v : WorldView) (t : Topic) (es : Entries) (index : IndexView) (n : ℕ) → NamesAll index 0 es → readers_of index t ≡ [] → n < 2 ^ 64 → Looks v t es es n n
looks-nothing v t es index n h none fits =
    (sym (nothing-looked v t es index h none), omega (arith, fits, nothing-read v t es index h none))

pub looks-kept : (w v : WorldView) (t : Topic) (es fs : Entries) (index : IndexView) (n m : ℕ) → Looks v t es fs n m → ChangesOnly w v t → IsKept w es index → IsKept v fs index
looks-kept w v t es fs index n m l c k = subst (λ (x : Entries). IsKept v x index) (sym l.0) (kept-looked w v t es index c k)

pub looks-changed : (w v : WorldView) (t : Topic) (es fs : Entries) (n m : ℕ) (r : Result WorldView Refusal) → Looks v t es fs n m → r ≡ Ok v
    → changed (record { world = w; shelf = shelf_of es; compared = n }) t r ≡ Ok (record { world = v; shelf = shelf_of fs; compared = m })
looks-changed w v t es fs n m r l made =
    ap (changed (record { world = w; shelf = shelf_of es; compared = n }) t) made
    ∙ (λ i. Ok (record { world = v; shelf = sym (ap shelf_of l.0 ∙ looked-shelf v t es) i; compared = sym l.1 i }))

pub looks-asked : (w v : WorldView) (q : Question) (es fs : Entries) (n m : ℕ) (o : Option Answer) → Looks v (topic_of q) es fs n m → o ≡ None
    → record { world = v; shelf = shelf_of fs; compared = m } ≡ after_asking (record { world = w; shelf = shelf_of es; compared = n }) q o v
looks-asked w v q es fs n m o l none =
    (λ i. record { world = v; shelf = (ap shelf_of l.0 ∙ looked-shelf v (topic_of q) es) i; compared = l.1 i })
    ∙ sym (ap (λ x. after_asking (record { world = w; shelf = shelf_of es; compared = n }) q x v) none)

-- the keys stay where records are looked at again
looked-keys : (w : WorldView) (t : Topic) (es : Entries) → keys_of (all_looked w t es) ≡ keys_of es
looked-keys w t [] = refl
looked-keys w t (e ∷ es) = ap (λ l. e.0 ∷ l) (looked-keys w t es)

looked-length : (w : WorldView) (t : Topic) (es : Entries) → length (all_looked w t es) ≡ length es
looked-length w t [] = refl
looked-length w t (e ∷ es) = ap suc (looked-length w t es)

abbrev pub transcript_topic : RecordView → Topic
transcript_topic r = topic.Transcript r.test.board r.test.script

-- what a live run makes of kept records: room is made, its transcript recorded and looked at, and its record placed
pub record Lives (w v : WorldView) (es fs hs gs : Entries) (few more : IndexView) (n m : ℕ) (k : TestId) (mk : MarkedView) (r : RecordView) (ss : List (List Entry)) : Type 0 where
  pub stays : NamesMore few more
  pub same : fs ≡ es
  pub before : IsKept w es few
  pub recorded_as : recorded w r.test ss ≡ Ok v
  pub looks : Looks v (transcript_topic r) fs hs n m
  pub test : k ≡ r.test
  pub whole : mk.record_of ≡ r
  pub names : NamesReads more (unwrap_or (position (same_test r.test) (keys_of es)) (length es)) r.reads
  pub entries : gs ≡ insert_entry same_test hs k (record mk { marks = marks_in v mk.record_of.reads })

pub live-placed : (w v : WorldView) (es fs hs gs : Entries) (few more : IndexView) (n m : ℕ) (k : TestId) (mk : MarkedView) (r : RecordView) (ss : List (List Entry))
    → Lives w v es fs hs gs few more n m k mk r ss → Placed v hs gs more r
live-placed w v es fs hs gs few more n m k mk r ss l =
    let t = transcript_topic r in
    placed v es hs gs more k mk r
    (ap keys_of l.looks.0 ∙ looked-keys v t fs ∙ ap keys_of l.same) (ap length l.looks.0 ∙ looked-length v t fs ∙ ap length l.same) l.test l.whole l.names l.entries
    (looks-kept w v t fs hs more n m l.looks (λ q other. recorded-look w v r.test ss q l.recorded_as other) (kept-more w es fs few more l.stays l.same l.before))

pub live-committed : (w v : WorldView) (es fs hs gs : Entries) (few more : IndexView) (n m p : ℕ) (k : TestId) (mk : MarkedView) (r : RecordView) (ss : List (List Entry))
    → Lives w v es fs hs gs few more n m k mk r ss → p ≡ counted m (length mk.record_of.reads)
    → committed_live (record { world = w; shelf = shelf_of es; compared = n }) r ss ≡ Ok (record { world = v; shelf = shelf_of gs; compared = p })
live-committed w v es fs hs gs few more n m p k mk r ss l count =
    let t = transcript_topic r in
    let put = live-placed w v es fs hs gs few more n m k mk r ss l in
    ap (λ (x : Entries). committed_live (record { world = w; shelf = shelf_of x; compared = n }) r ss) (sym l.same)
    ∙ ap (then_committed r) (looks-changed w v t fs hs n m (recorded w r.test ss) l.looks l.recorded_as)
    ∙ (λ i. Ok (record { world = v; shelf = sym put.1 i; compared = sym (count ∙ ap (λ (x : RecordView). counted m (length x.reads)) l.whole) i }))
