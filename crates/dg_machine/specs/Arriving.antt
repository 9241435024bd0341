-- What an evaluation comes to by itself, and along the answers of a source.
use Rattle.std.specs.Prelude.{◌≡◌, ◌++◌, List, [], ◌∷◌, Some, None}
use Rattle.dg_world.specs.declared.question.Answer.{Answer}
use Rattle.dg_world.specs.declared.question.Question.{Question}
use Rattle.dg_world.specs.declared.question.Read.{Read}
use Rattle.dg_world.specs.declared.test_id.TestId.{TestId}
use Rattle.dg_language.specs.Play.{Play, Source, Leads, heard}
use Rattle.dg_language.specs.State.{taken}
use Rattle.dg_language.specs.Evaluation.{Ending}
use Rattle.dg_language.specs.Judge.{judge}
use Rattle.dg_machine.specs.Evaluating.{EvaluationView, IsLeft, NeedsNext, HasEnded}
use Rattle.dg_machine.specs.Meaning.{ComesTo}
use Rattle.dg_machine.specs.declared.machine.Machine.{Machine}
use Rattle.dg_machine.specs.declared.frame.Stop.{Stop}
use Rattle.dg_machine.specs.declared.frame.Stop.TheVariants.{AtQuestion as StandsAt, AtEnd as StopsAt, Lost as StopsLost}
use Rattle.dg_machine.specs.declared.evaluation.Arrival.{Arrival}
use Rattle.dg_machine.specs.declared.evaluation.Arrival.TheVariants.{AtQuestion, AtEnd, Lost}
use Rattle.dg_machine.specs.Lost.{HasReadPattern}

-- to the question that the judging needs next, which then stands; to its end, with just the answers so far as the reads; or to a
-- pattern that can't be built, though one of the answers is that it is read
abbrev pub Arrives : EvaluationView → Arrival → Type 0
Arrives old (AtQuestion a) = NeedsNext old.test old.reads a.ask × (a.test ≡ old.test) × (a.reads ≡ old.reads)
Arrives old (AtEnd e) =
    HasEnded old.test old.reads (record { verdict = e.verdict; close = e.close; board_steps = e.board_steps; steps = e.steps }) × (e.test ≡ old.test) × (e.reads ≡ old.reads)
Arrives old Lost = HasReadPattern old.reads

-- the source has no answer to the question that stands, if one does
abbrev pub IsUnanswered : Source → Arrival → Type 0
IsUnanswered look (AtQuestion a) = look a.ask.question ≡ None
IsUnanswered look (AtEnd e) = Unit {0}
IsUnanswered look Lost = Unit {0}

-- these questions have these answers in a source, of which this is true
abbrev pub AreGiven : Source → (Question → Answer → Type 0) → List Read → Type 0
AreGiven look holds [] = Unit {0}
AreGiven look holds (r ∷ rs) = (heard r.question (look r.question) ≡ Some r.answer) × holds r.question r.answer × AreGiven look holds rs

-- An evaluation was told more answers of a source: those that its judging asks for next.
pub record IsToldMore (look : Source) (holds : Question → Answer → Type 0) (old mid : EvaluationView) : Type 0 where
  pub more : List Read
  pub given : AreGiven look holds more
  pub test : mid.test ≡ old.test
  pub reads : mid.reads ≡ old.reads ++ more
  pub rest : Play Ending
  pub leads : Leads (judge mid.test) mid.reads rest

-- It is told answers of a source as long as there are such, and then comes to this by itself.
abbrev pub ArrivesAlong : Source → (Question → Answer → Type 0) → EvaluationView → Arrival → Type 0
ArrivesAlong look holds old a = (mid : EvaluationView) × IsToldMore look holds old mid × Arrives mid a × IsUnanswered look a

-- a machine was told more answers of a source, and keeps what is left of each judging
pub record IsTold (look : Source) (holds : Question → Answer → Type 0) (old mid : Machine) : Type 0 where
  pub more : List Read
  pub given : AreGiven look holds more
  pub known : mid.state.known ≡ old.state.known ++ more
  pub left : (t : TestId) → IsLeft t old → IsLeft t mid

abbrev pub StandsUnanswered : Source → Stop → Type 0
StandsUnanswered look (StandsAt ask) = look ask.question ≡ None
StandsUnanswered look (StopsAt c) = Unit {0}
StandsUnanswered look StopsLost = Unit {0}

-- and then it came by itself to a question without an answer there, or to the end
abbrev pub ComesAlong : Source → (Question → Answer → Type 0) → Machine → Machine → Stop → Type 0
ComesAlong look holds old new stop = (mid : Machine) × IsTold look holds old mid × ComesTo mid new stop × StandsUnanswered look stop

-- an evaluation between two questions, as its callers see it
abbrev pub evaluation_of : TestId → Machine → EvaluationView
evaluation_of t m = record { test = t; reads = m.state.known; steps = taken m.state }

-- a machine has come to this stop from what was left of a test's judging
abbrev pub HasCome : TestId → Machine → Stop → Type 0
HasCome t new stop = (old : Machine) × IsLeft t old × ComesTo old new stop

-- the same stop, as callers see it
abbrev pub IsSameStop : Stop → Arrival → Type 0
IsSameStop (StandsAt ask) (AtQuestion a) = a.ask ≡ ask
IsSameStop (StopsAt c) (AtEnd e) = Unit {0}
IsSameStop StopsLost Lost = Unit {0}
IsSameStop stop a = ⊥

-- it is what that evaluation arrives at
abbrev pub ComesAs : TestId → Machine → Stop → Arrival → Type 0
ComesAs t new stop a =
    ((old : Machine) → IsLeft t old → ComesTo old new stop → Arrives (evaluation_of t old) a) × IsSameStop stop a
