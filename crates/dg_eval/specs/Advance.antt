-- What the turns of a job come to.
use Rattle.std.specs.Prelude.{◌≡◌, ◌⊎◌, ℕ, Bool, true, false, List, [], ◌∷◌, ◌++◌, Option, Some, None}
use Rattle.dg_language.specs.declared.ask.Ask.{Ask}
use Rattle.dg_language.specs.Evaluation.{Ending}
use Rattle.dg_language.specs.Judge.{judge}
use Rattle.dg_language.specs.Play.{Play, Source, Leads}
use Rattle.dg_world.specs.declared.question.Answer.{Answer}
use Rattle.dg_world.specs.declared.question.Question.{Question}
use Rattle.dg_world.specs.declared.question.Read.{Read}
use Rattle.dg_world.specs.declared.test_id.TestId.{TestId}
use Rattle.dg_world.specs.Question.{fits}
use Rattle.dg_results.specs.declared.verdict.Line.{Line}
use Rattle.dg_machine.specs.Evaluating.{EvaluationView, NeedsNext, HasEnded}
use Rattle.dg_machine.specs.Arriving.{AreGiven, Arrives}
use Rattle.dg_machine.specs.declared.evaluation.Arrival.{Arrival}
use Rattle.dg_machine.specs.declared.evaluation.Arrival.TheVariants.{AtQuestion, AtEnd}
use Rattle.dg_machine.specs.Lost.{HasReadPattern}
use Rattle.dg_eval.specs.declared.job.Turn.{Turn}
use Rattle.dg_eval.specs.declared.job.Turn.TheVariants.{Need, Done}
use Rattle.dg_eval.specs.declared.job.JobFault.{JobFault}
use Rattle.dg_eval.specs.declared.job.JobFault.TheVariants.{NotAsked, WrongKind, PatternLost, Memory, Failed}
use Rattle.dg_eval.specs.Truth.{JobView}

-- the job that was started for a test
abbrev pub started : TestId → JobView
started test = record { test = test; reads = []; asked = None; live = true; failed = false; steps = 0 }

-- the job that goes on with these answers
abbrev pub going : JobView → List Read → JobView
going old reads = record { test = old.test; reads = reads; asked = None; live = true; failed = false; steps = old.steps }

-- the job that is done
abbrev pub over : TestId → ℕ → JobView
over test steps = record { test = test; reads = []; asked = None; live = false; failed = false; steps = steps }

-- the steps after a turn: while a question stands no more are taken
abbrev pub steps_after : Option Ask → ℕ → ℕ → ℕ
steps_after None before now = now
steps_after (Some ask) before now = before

-- the judging has ended with this verdict and after so many steps, with just these answers as the source
pub record HasEndedWith (test : TestId) (reads : List Read) (verdict : List Line) (steps : ℕ) : Type 0 where
  pub ending : Ending
  pub has_ended : HasEnded test reads ending
  pub lines : ending.verdict ≡ verdict
  pub count : ending.steps ≡ steps

-- What a turn comes to with the answers so far: to the question that the judging needs next, which then stands, or to a
-- record of its verdict, with just these answers as the reads.
abbrev pub Advances : JobView → JobView → Turn → Type 0
Advances old new (Need q) =
    (old.live ≡ true) × NeedsNext old.test old.reads q × (new ≡ record old { asked = Some q; steps = steps_after old.asked old.steps new.steps })
Advances old new (Done r) =
    (old.live ≡ true) × HasEndedWith old.test old.reads r.verdict new.steps
    × (r.test ≡ old.test) × (r.reads ≡ old.reads) × (new ≡ over old.test new.steps)

-- the job of a test that has failed, for good, with the steps that it had taken
abbrev pub failed : TestId → ℕ → JobView
failed test steps = record { test = test; reads = []; asked = None; live = false; failed = true; steps = steps }

-- the job has failed, for good
abbrev pub HasFailed : JobView → JobView → Type 0
HasFailed old new = new ≡ failed old.test old.steps

-- a turn that comes to nothing: the job fails for want of memory, or where a pattern that it was told is read can't be built; or it had failed or ended before and stays as it was
abbrev pub Halts : JobView → JobView → JobFault → Type 0
Halts old new NotAsked = ⊥
Halts old new WrongKind = ⊥
Halts old new PatternLost = (old.live ≡ true) × HasReadPattern old.reads × HasFailed old new
Halts old new Memory = (old.live ≡ true) × HasFailed old new
Halts old new Failed = (old.live ≡ false) × (new ≡ old)

-- the answer goes to the question that stood, and none stands then
abbrev pub Tells : JobView → JobView → Answer → Option Ask → Type 0
Tells old new a None = ⊥
Tells old new a (Some ask) =
    (fits ask.question a ≡ true) × (new ≡ record old { reads = old.reads ++ record { question = ask.question; answer = a } ∷ []; asked = None })

-- whether a question stands, and whether the answer is of its kind
abbrev pub IsOfKind : Option Ask → Answer → Bool → Type 0
IsOfKind None a right = ⊥
IsOfKind (Some ask) a right = fits ask.question a ≡ right

-- an answer that is not taken; only want of memory changes the job, which then has failed
abbrev pub Refuses : JobView → JobView → Answer → JobFault → Type 0
Refuses old new a NotAsked = (old.failed ≡ false) × (old.asked ≡ None) × (new ≡ old)
Refuses old new a WrongKind = IsOfKind old.asked a false × (new ≡ old)
Refuses old new a PatternLost = ⊥
Refuses old new a Memory = IsOfKind old.asked a true × HasFailed old new
Refuses old new a Failed = (old.failed ≡ true) × (new ≡ old)

-- a job was told more answers of a source: those that its judging asks for next
pub record IsToldMore (look : Source) (holds : Question → Answer → Type 0) (old mid : JobView) : Type 0 where
  pub more : List Read
  pub given : AreGiven look holds more
  pub asked : old.asked ≡ None
  pub live : old.live ≡ true
  pub is : mid ≡ going old (old.reads ++ more)
  pub rest : Play Ending
  pub leads : Leads (judge old.test) mid.reads rest

-- the job stays as it was, or is told more
abbrev pub GoesAlong : Source → (Question → Answer → Type 0) → JobView → JobView → Type 0
GoesAlong look holds old mid = (mid ≡ old) ⊎ IsToldMore look holds old mid

-- a question stood before, or the source has no answer to the one that is needed
abbrev pub IsUnanswered : Source → JobView → Turn → Type 0
IsUnanswered look old (Need ask) = ((stood : Ask) × (old.asked ≡ Some stood)) ⊎ (look ask.question ≡ None)
IsUnanswered look old (Done r) = Unit {0}

-- What a turn comes to along a source: the job is told its answers as long as there are such, and then advances.
abbrev pub AdvancesAlong : Source → (Question → Answer → Type 0) → JobView → JobView → Turn → Type 0
AdvancesAlong look holds old new turn = (mid : JobView) × GoesAlong look holds old mid × Advances mid new turn × IsUnanswered look old turn

-- or it comes to nothing behind some of them
abbrev pub HaltsAlong : Source → (Question → Answer → Type 0) → JobView → JobView → JobFault → Type 0
HaltsAlong look holds old new fault = (mid : JobView) × GoesAlong look holds old mid × Halts mid new fault

-- an evaluation of the test has arrived at this
abbrev pub HasArrived : TestId → Arrival → Type 0
HasArrived test arrival = (e : EvaluationView) × (e.test ≡ test) × Arrives e arrival

-- the turn tells where the evaluation has arrived
abbrev pub IsTurnOf : Arrival → Turn → Type 0
IsTurnOf (AtQuestion a) (Need ask) = ask ≡ a.ask
IsTurnOf (AtEnd e) (Done r) = Unit {0}
IsTurnOf arrival turn = ⊥

-- what a turn comes to, whose evaluation has arrived at this
abbrev pub Meets : JobView → JobView → Arrival → Turn → Type 0
Meets old new arrival turn =
    ((e : EvaluationView) → e.test ≡ old.test → Arrives e arrival → Advances (going old e.reads) new turn) × IsTurnOf arrival turn

abbrev pub Misses : JobView → JobView → Arrival → JobFault → Type 0
Misses old new arrival fault = (e : EvaluationView) → e.test ≡ old.test → Arrives e arrival → Halts (going old e.reads) new fault
