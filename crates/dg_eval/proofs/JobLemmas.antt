-- What a job's end says of the record that is made of it, and what a turn along a source comes to.
use Rattle.std.proofs.Common.{◌≡◌, inl, inr, ◌∙◌, ◌++◌, ℕ, List, true, true≢false, refl, sym, ap, subst}
use Rattle.std.proofs.lemmas.Result.{MatchResult-weaker}
use Rattle.std.specs.Prelude.{None, Result, MatchResult}
use Rattle.dg_world.specs.declared.question.Answer.{Answer}
use Rattle.dg_world.specs.declared.question.Question.{Question}
use Rattle.dg_world.specs.declared.question.Read.{Read}
use Rattle.dg_world.specs.declared.test_id.TestId.{TestId}
use Rattle.dg_language.specs.declared.ask.Ask.{Ask}
use Rattle.dg_language.specs.Play.{Source, Ends, Leads, end_of}
use Rattle.dg_language.specs.Evaluation.{Ending}
use Rattle.dg_language.specs.Judge.{judge, verdict_of}
use Rattle.dg_language.proofs.Sources.{run-leads}
use Rattle.dg_records.specs.Truth.{IsTrueRecord}
use Rattle.dg_machine.specs.Arriving.{ArrivesAlong, IsUnanswered as IsStopUnanswered}
use Rattle.dg_machine.specs.Evaluating.{EvaluationView, HasEnded}
use Rattle.dg_machine.specs.declared.evaluation.Arrival.{Arrival}
use Rattle.dg_machine.specs.declared.evaluation.Arrival.TheVariants.{AtQuestion, AtEnd, Lost}
use Rattle.dg_eval.specs.Truth.{IsStage, JobView, asked_of, has_failed, is_live, reads_of}
use Rattle.dg_eval.specs.declared.stage.Stage.{Stage}
use Rattle.dg_eval.specs.declared.stage.Stage.TheVariants.{Running, Asking, Finished, Failed}
use Rattle.dg_eval.specs.declared.job.JobFault.TheVariants.{Memory}
use Rattle.dg_eval.specs.Advance.{Advances, AdvancesAlong, Halts, HaltsAlong, IsToldMore, IsTurnOf, IsUnanswered, Meets, Misses, failed, going}
use Rattle.dg_eval.specs.declared.job.JobFault.{JobFault}
use Rattle.dg_eval.specs.declared.job.Turn.{Turn}
use Rattle.dg_eval.specs.declared.job.Turn.TheVariants.{Need, Done}

-- a record of it is true
pub ended-true : (test : TestId) (reads : List Read) (e : Ending) → HasEnded test reads e → IsTrueRecord test reads e.verdict
ended-true test reads e h =
    record { holds = λ source g. ap (λ c. verdict_of (end_of c)) (run-leads (judge test) source reads (Ends e) h.leads g) }

-- the question at which it has arrived has no answer there
unanswered : (look : Source) (old : JobView) (arrival : Arrival) (turn : Turn) → IsStopUnanswered look arrival → IsTurnOf arrival turn
    → IsUnanswered look old turn
unanswered look old (AtQuestion a) (Need ask) u e = inr (ap (λ (x : Ask). look x.question) e ∙ u)
unanswered look old (AtEnd x) (Done r) u e = tt
unanswered look old (AtQuestion a) (Done r) u e = absurd e
unanswered look old (AtEnd x) (Need ask) u e = absurd e
unanswered look old Lost turn u e = absurd e

-- The turn of a job, which was running, where its evaluation has gone along a source.
module _ (look : Source) (holds : Question → Answer → Type 0) (old before new : JobView) (e : EvaluationView) (arrival : Arrival)
    (came : ArrivesAlong look holds e arrival) (live : old.live ≡ true) (asked : old.asked ≡ None) (test : e.test ≡ old.test) (reads : e.reads ≡ old.reads)
    (is : before ≡ failed old.test old.steps) where
  -- the job that was told what the evaluation was told
  told : JobView
  told = going old (old.reads ++ came.1.more)

  same-test : came.0.test ≡ old.test
  same-test = came.1.test ∙ test

  same-job : going before came.0.reads ≡ told
  unfolding told
  same-job =
      ap (λ (j : JobView). going j came.0.reads) is
      ∙ ap (going (failed old.test old.steps)) (came.1.reads ∙ ap (λ rs. rs ++ came.1.more) reads)

  told-more : IsToldMore look holds old told
  unfolding told
  told-more =
      record {
        more = came.1.more;
        given = came.1.given;
        asked = asked;
        live = live;
        is = refl;
        rest = came.1.rest;
        leads =
            subst (λ rs. Leads (judge old.test) rs came.1.rest) (came.1.reads ∙ ap (λ rs. rs ++ came.1.more) reads)
            (subst (λ t. Leads (judge t) came.0.reads came.1.rest) same-test came.1.leads);
      }

  pub advances-along : (turn : Turn) → Meets before new arrival turn → AdvancesAlong look holds old new turn
  advances-along turn h =
      (told, inr told-more, subst (λ j. Advances j new turn) same-job (h.0 came.0 (same-test ∙ sym (ap (λ (j : JobView). j.test) is)) came.2), unanswered look old arrival turn came.3 h.1)

  pub halts-along : (fault : JobFault) → Misses before new arrival fault → HaltsAlong look holds old new fault
  halts-along fault h =
      (told, inr told-more, subst (λ j. Halts j new fault) same-job (h came.0 (same-test ∙ sym (ap (λ (j : JobView). j.test) is)) came.2))

-- a job, by its parts
abbrev view_of : TestId → Stage → ℕ → JobView
view_of test stage steps = record { test = test; reads = reads_of stage; asked = asked_of stage; live = is_live stage; failed = has_failed stage; steps = steps }

-- the turn of a job that was running
pub running-along : (look : Source) (holds : Question → Answer → Type 0) (test : TestId) (stage now : Stage) (steps : ℕ) (old new : JobView) (e : EvaluationView)
    (arrival : Arrival) (r : Result Turn JobFault) → stage ≡ Running e → now ≡ Failed → view_of test stage steps ≡ old → IsStage test stage
    → ArrivesAlong look holds e arrival → MatchResult r (Meets (view_of test now steps) new arrival) (Misses (view_of test now steps) new arrival)
    → MatchResult r (AdvancesAlong look holds old new) (HaltsAlong look holds old new)
running-along look holds test stage now steps old new e arrival r s n v i came h =
    let live : old.live ≡ true = sym (ap (λ (j : JobView). j.live) v) ∙ ap is_live s in
    let asked : old.asked ≡ None = sym (ap (λ (j : JobView). j.asked) v) ∙ ap asked_of s in
    let same : e.test ≡ old.test = subst (IsStage test) s i ∙ ap (λ (j : JobView). j.test) v in
    let reads : e.reads ≡ old.reads = sym (ap reads_of s) ∙ ap (λ (j : JobView). j.reads) v in
    let is : view_of test now steps ≡ failed old.test old.steps = ap (λ st. view_of test st steps) n ∙ ap (λ (j : JobView). failed j.test j.steps) v in
    MatchResult-weaker r h (advances-along look holds old (view_of test now steps) new e arrival came live asked same reads is)
    (halts-along look holds old (view_of test now steps) new e arrival came live asked same reads is)

-- it wanted memory
pub memory-along : (look : Source) (holds : Question → Answer → Type 0) (test : TestId) (stage now : Stage) (steps : ℕ) (old : JobView) (e : EvaluationView)
    → stage ≡ Running e → now ≡ Failed → view_of test stage steps ≡ old → HaltsAlong look holds old (view_of test now steps) Memory
memory-along look holds test stage now steps old e s n v = (
  old,
  inl refl,
  (
    sym (ap (λ (j : JobView). j.live) v) ∙ ap is_live s,
    ap (λ st. view_of test st steps) n ∙ ap (λ (j : JobView). failed j.test j.steps) v,
  ),
)

-- the turn of a job that was not running, and stays at its stage
pub standing-along : (look : Source) (holds : Question → Answer → Type 0) (test : TestId) (stage again : Stage) (steps : ℕ) (old new : JobView) (r : Result Turn JobFault)
    → ((e : EvaluationView) → stage ≡ Running e → ⊥) → again ≡ stage → view_of test stage steps ≡ old
    → MatchResult r (Advances (view_of test again steps) new) (Halts (view_of test again steps) new)
    → MatchResult r (AdvancesAlong look holds old new) (HaltsAlong look holds old new)
standing-along look holds test stage again steps old new r never s v h =
    let same : view_of test again steps ≡ old = ap (λ st. view_of test st steps) s ∙ v in
    MatchResult-weaker r (subst (λ j. MatchResult r (Advances j new) (Halts j new)) same h) (λ turn a. (old, inl refl, a, stands stage turn never v a))
    (λ fault f. (old, inl refl, f))
  where
    stands : (stage : Stage) (turn : Turn) → ((e : EvaluationView) → stage ≡ Running e → ⊥) → view_of test stage steps ≡ old → Advances old new turn → IsUnanswered look old turn
    stands stage (Done made) never v a = tt
    stands (Running e) (Need ask) never v a = absurd (never e refl)
    stands (Asking asking) (Need ask) never v a = inl (asking.ask, sym (ap (λ (j : JobView). j.asked) v))
    stands (Finished readings) (Need ask) never v a = absurd (true≢false (sym a.0 ∙ sym (ap (λ (j : JobView). j.live) v)))
    stands Failed (Need ask) never v a = absurd (true≢false (sym a.0 ∙ sym (ap (λ (j : JobView). j.live) v)))
