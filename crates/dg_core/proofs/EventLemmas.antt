-- What events keep: each kept record is true.
use Rattle.std.proofs.Common.{◌≡◌, inl, inr, ◌∙◌, ℕ, Bool, true, false, cond, List, [], ◌∷◌, refl, ap, sym, subst}
use Rattle.std.specs.Prelude.{Option, Some, None, Result, Ok, Err, option_map}
use Rattle.dg_world.specs.Test.{same_test}
use Rattle.dg_world.specs.World.{WorldView, edited, recorded, selected}
use Rattle.dg_world.specs.declared.refusal.Refusal.{Refusal}
use Rattle.dg_world.specs.declared.test_id.TestId.{TestId}
use Rattle.dg_records.specs.Truth.{RecordView, IsTrueRecord, answers_of}
use Rattle.dg_records.specs.Shelf.{kept, with_record}
use Rattle.dg_language.specs.Judge.{verdict_in}
use Rattle.dg_sum.specs.Judged.{Judged}
use Rattle.dg_sum.specs.Report.{report, status}
use Rattle.dg_index.specs.declared.topic.Topic.{Topic}
use Rattle.dg_index.specs.declared.topic.Topic.TheVariants as topic
use Rattle.dg_index.specs.Topic.{touched}
use Rattle.dg_index.specs.Marks.{counted, reads_of}
use Rattle.dg_index.specs.Kept.{KeptView, holds_if_kept, changed, then_committed, committed}
use Rattle.dg_core.specs.Core.{CoreView, new_core, kept_of, core_of, pending, with_kept}
use Rattle.dg_core.specs.Scratch.{and_judged, all_judged, judged, scratch}
use Rattle.dg_core.specs.Events.{Event, Edits, Asks, Commits, Lives, Reports, Happens, Runs, kept_verdicts, kept_report}
use Rattle.dg_core.proofs.Turning.{shelf-asked}
use Rattle.dg_core.proofs.Settling.{AllHeld, held-pending, verdict-held, kept-test}

abbrev True : RecordView → Type 0
True r = IsTrueRecord r.test r.reads r.verdict

abbrev AllTrue : List RecordView → Type 0
AllTrue [] = Unit {0}
AllTrue (r ∷ rs) = True r × AllTrue rs

true-with_record : (s : List RecordView) (r : RecordView) → AllTrue s → True r → AllTrue (with_record s r)
true-with_record [] r all h = (h, tt)
true-with_record (x ∷ xs) r all h = step (same_test r.test x.test) (true-with_record xs r all.1 h)
  where
    step : (b : Bool) → AllTrue (with_record xs r) → AllTrue (cond b (r ∷ xs) (x ∷ with_record xs r))
    step true rest = (h, all.1)
    step false rest = (all.0, rest)

true-kept : (s : List RecordView) (t : TestId) (r : RecordView) → AllTrue s → kept s t ≡ Some r → True r
true-kept [] t r all h = cc
true-kept (x ∷ xs) t r all h = step (same_test t x.test) h (true-kept xs t r all.1)
  where
    step : (b : Bool) → cond b (Some x) (kept xs t) ≡ Some r → (kept xs t ≡ Some r → True r) → True r
    step true g rest = let same : x ≡ r = cc in subst True same all.0
    step false g rest = rest g

true-edited : (old new : CoreView) (t : Topic) (r : Result WorldView Refusal) → AllTrue old.shelf → with_kept old.evaluations (changed (kept_of old) t r) ≡ Ok new → AllTrue new.shelf
true-edited old new t (Ok w) all h =
    let same : core_of (record (kept_of old) { world = w; compared = counted old.compared (reads_of t old.shelf) }) old.evaluations ≡ new = cc in
    subst (λ (c : CoreView). AllTrue c.shelf) same all
true-edited old new t (Err refusal) all h = cc

true-lived : (old new : CoreView) (r : RecordView) (t : Topic) (w : Result WorldView Refusal) → AllTrue old.shelf → True r
    → with_kept old.evaluations (then_committed r (changed (kept_of old) t w)) ≡ Ok new → AllTrue new.shelf
true-lived old new r t (Ok w) all y h =
    let same : core_of (committed (record (kept_of old) { world = w; compared = counted old.compared (reads_of t old.shelf) }) r) old.evaluations ≡ new = cc in
    subst (λ (c : CoreView). AllTrue c.shelf) same (true-with_record old.shelf r all y)
true-lived old new r t (Err refusal) all y h = cc

true-same : (old new : CoreView) → AllTrue old.shelf → new ≡ old → AllTrue new.shelf
true-same old new all same = subst (λ (c : CoreView). AllTrue c.shelf) (sym same) all

true-after : (old new : CoreView) (event : Event) → AllTrue old.shelf → Happens old event new → AllTrue new.shelf
true-after old new (Edits e) all h =
    elim h [ inl made ↦ true-edited old new (touched e) (edited old.world e) all made | inr same ↦ true-same old new all same ]
true-after old new (Asks q) all h =
    elim h [ inl asked ↦ subst AllTrue (sym (ap (λ (k : KeptView). k.shelf) asked.1.0.1 ∙ shelf-asked (kept_of old) q _ new.world)) all | inr same ↦ true-same old new all same ]
true-after old new (Commits r) all h =
    elim h.1 [
      | inl kept_now ↦ subst (λ (c : CoreView). AllTrue c.shelf) (sym kept_now) (true-with_record old.shelf r all h.0)
      | inr same ↦ true-same old new all same
    ]
true-after old new (Lives r sessions) all h =
    elim h.1 [
      | inl made ↦ true-lived old new r (topic.Transcript r.test.board r.test.script) (recorded old.world r.test sessions) all h.0 made
      | inr same ↦ true-same old new all same
    ]
true-after old new Reports all h = true-same old new all h

true-runs : (old new : CoreView) (events : List Event) → AllTrue old.shelf → Runs old events new → AllTrue new.shelf
true-runs old new [] all h = true-same old new all h
true-runs old new (e ∷ es) all h = true-runs h.0 new es (true-after old h.0 e all h.1) h.2

-- the verdicts of kept records that hold are those from scratch
verdicts-held : (w : WorldView) (s : List RecordView) (ts : List TestId) → AllTrue s → AllHeld w s ts
    → (js : List Judged) × (kept_verdicts s ts ≡ Some js) × (all_judged (answers_of w) ts ≡ Some js)
verdicts-held w s [] all h = ([], refl, refl)
verdicts-held w s (t ∷ ts) all h = step (kept s t) refl (verdicts-held w s ts all h.1)
  where
    step : (o : Option RecordView) → kept s t ≡ o → ((js : List Judged) × (kept_verdicts s ts ≡ Some js) × (all_judged (answers_of w) ts ≡ Some js))
        → (js : List Judged) × (and_judged t (option_map (λ r. r.verdict) (kept s t)) (kept_verdicts s ts) ≡ Some js)
        × (and_judged t (verdict_in (answers_of w) t) (all_judged (answers_of w) ts) ≡ Some js)
    step None e rest = let no : holds_if_kept w (kept s t) ≡ false = ap (holds_if_kept w) e in cc
    step (Some r) e rest =
        let here = verdict-held w s t r h.0 e (true-kept s t r all e) (kept-test s t r e) in (
          judged t r.verdict ∷ rest.0,
          ap (λ o. and_judged t (option_map (λ (x : RecordView). x.verdict) o) (kept_verdicts s ts)) e ∙ ap (and_judged t (Some r.verdict)) rest.1,
          ap (λ o. and_judged t o (all_judged (answers_of w) ts)) here ∙ ap (and_judged t (Some r.verdict)) rest.2,
        )

pub reports-after : (events : List Event) (c : CoreView) → Runs new_core events c → pending c ≡ []
    → (sum : List ℕ × ℕ) × (kept_report c ≡ Some sum) × (scratch c.world ≡ Some sum)
unfolding pending scratch
reports-after events c h none =
    let all = true-runs new_core c events tt h in
    let v = verdicts-held c.world c.shelf (selected c.world) all (held-pending c.world c.shelf (selected c.world) none) in
    let sum : List Judged → List ℕ × ℕ = λ js. (report c.world.selection js, status js) in
    (sum v.0, ap (option_map sum) v.1, ap (option_map sum) v.2)
