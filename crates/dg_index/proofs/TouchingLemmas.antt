-- What an edit touches among the kept records, and what it leaves.
use Rattle.std.proofs.Common.{◌≡◌, ◌∙◌, ◌+◌, ℕ, zero, suc, Bool, true, false, cond, List, [], ◌∷◌, refl, sym, subst, arith}
use Rattle.std.specs.Prelude.{Ok, slice_get, ◌&&◌}
use Rattle.std.specs.List.{list_all}
use Rattle.std.proofs.lemmas.List.Sums.{sum_by-cons}
use Rattle.dg_world.specs.World.{WorldView, look, edited}
use Rattle.dg_world.specs.declared.edit.Edit.{Edit}
use Rattle.dg_world.specs.declared.question.Read.{Read}
use Rattle.dg_records.specs.Truth.{RecordView, is_given}
use Rattle.dg_index.specs.Topic.{is_on, touched}
use Rattle.dg_index.specs.Marks.{shelf_of, reads_on}
use Rattle.dg_index.specs.Index.{IndexView, readers_of, is_among, NamesAll, NoneElseReads}
use Rattle.dg_index.specs.Kept.{holds_if_kept}
use Rattle.dg_index.specs.Touching.{OnlyTheseRead}
use Rattle.dg_index.specs.declared.topic.Topic.{Topic}
use Rattle.dg_index.proofs.KeptLemmas.{Entries, ChangesOnly, only-named}
use Rattle.dg_index.proofs.TopicLemmas.{edited-look}

-- what is said of entries holds of their records
on-shelf : (at : ℕ → Bool) (t : Topic) (es : Entries) → NoneElseReads at t es → OnlyTheseRead at t (shelf_of es)
on-shelf at t [] h = tt
on-shelf at t (e ∷ es) h = (h.0, on-shelf (λ k. at (suc k)) t es h.1)

-- the places that the index names for a topic are all that read it
pub only-touched : (index : IndexView) (t : Topic) (es : Entries) (places : List ℕ) → places ≡ readers_of index t → NamesAll index 0 es → OnlyTheseRead (is_among places) t (shelf_of es)
only-touched index t es places are h =
    subst (λ ps. OnlyTheseRead (is_among ps) t (shelf_of es)) (sym are) (on-shelf (is_among (readers_of index t)) t es (only-named index t es h))

-- a record that reads nothing of a topic holds just if it did, where a world changes on that topic only
unread-given : (w v : WorldView) (t : Topic) (rs : List Read) → ChangesOnly w v t → reads_on t rs ≡ 0
    → list_all (λ read. is_given (look v read.question) read.answer) rs ≡ list_all (λ read. is_given (look w read.question) read.answer) rs
unread-given w v t [] c h = refl
unread-given w v t (r ∷ rs) c h = step (is_on t r.question) refl (sym (sum_by-cons (λ (x : Read). cond (is_on t x.question) 1 0) r rs) ∙ h) (unread-given w v t rs c)
  where
    step : (b : Bool) → is_on t r.question ≡ b → cond b 1 0 + reads_on t rs ≡ 0
        → (reads_on t rs ≡ 0 → list_all (λ read. is_given (look v read.question) read.answer) rs ≡ list_all (λ read. is_given (look w read.question) read.answer) rs)
        → list_all (λ read. is_given (look v read.question) read.answer) (r ∷ rs) ≡ list_all (λ read. is_given (look w read.question) read.answer) (r ∷ rs)
    step true on e ih = absurd (omega (arith, e))
    step false on e ih = λ i. is_given (c r.question on i) r.answer && ih (omega (arith, e)) i

-- so does the record at a place that isn't among those that read what an edit touches
pub untouched-holds : (w v : WorldView) (e : Edit) (at : ℕ → Bool) (s : List RecordView) (place : ℕ) → edited w e ≡ Ok v → OnlyTheseRead at (touched e) s → at place ≡ false
    → holds_if_kept v (slice_get s place) ≡ holds_if_kept w (slice_get s place)
untouched-holds w v e at [] place made only out = refl
untouched-holds w v e at (r ∷ rs) zero made only out = unread-given w v (touched e) r.reads (λ q other. edited-look w v e q made other) (only.0 out)
untouched-holds w v e at (r ∷ rs) (suc place) made only out = untouched-holds w v e (λ k. at (suc k)) rs place made only.1 out
