-- Evaluations as their callers see them, and what is true of them.
use Rattle.std.specs.Prelude.{◌≡◌, ℕ, List, [], ◌∷◌, ◌++◌, None}
use Rattle.dg_world.specs.declared.question.Answer.{Answer}
use Rattle.dg_world.specs.declared.question.Read.{Read}
use Rattle.dg_world.specs.declared.test_id.TestId.{TestId}
use Rattle.dg_language.specs.declared.ask.Ask.{Ask}
use Rattle.dg_language.specs.Play.{Play, Ends, Asks, run, Over, Needs, lookup, source_of, GivesEach, Leads}
use Rattle.dg_language.specs.Evaluation.{Ending}
use Rattle.dg_language.specs.Judge.{judge}
use Rattle.dg_machine.specs.declared.machine.Machine.{Machine}
use Rattle.dg_machine.specs.Meaning.{rest, told}

-- an evaluation between two questions: its test, the answers so far, and the steps that were taken
pub record EvaluationView : Type 0 where
  pub test : TestId
  pub reads : List Read
  pub steps : ℕ

-- an evaluation at a question that stands
pub record AskingView : Type 0 where
  pub test : TestId
  pub reads : List Read
  pub ask : Ask
  pub steps : ℕ

-- the evaluation that is about to open the first file of a test
abbrev pub begun : TestId → EvaluationView
begun test = record { test = test; reads = []; steps = 0 }

-- the evaluation that was told the answer to its question
abbrev pub answered : AskingView → Answer → EvaluationView
answered asking a =
    record { test = asking.test; reads = asking.reads ++ record { question = asking.ask.question; answer = a } ∷ []; steps = asking.steps }

-- The judging needs this question next: down its tree, along the answers so far, it stands, and with just these answers
-- as the source the evaluation comes to it. It was not asked before.
pub record NeedsNext (test : TestId) (reads : List Read) (ask : Ask) : Type 0 where
  pub leads : (k : Answer → Play Ending) × Leads (judge test) reads (Asks ask k)
  pub comes : run (source_of reads) (judge test) ≡ Needs ask
  pub new : lookup ask.question reads ≡ None

-- the judging has ended like this, with just these answers as the source
pub record HasEnded (test : TestId) (reads : List Read) (e : Ending) : Type 0 where
  pub leads : Leads (judge test) reads (Ends e)
  pub comes : run (source_of reads) (judge test) ≡ Over e

-- the source of these reads gives each of them: no question was answered twice, and none with another kind
abbrev pub IsOnce : List Read → Type 0
IsOnce reads = GivesEach (source_of reads) reads

-- Down the tree of the test's judging, along the reads so far, stands what is left.
pub record IsLeft (test : TestId) (m : Machine) : Type 0 where
  pub once : IsOnce m.state.known
  pub leads : Leads (judge test) m.state.known (rest m)

-- and the question that stands is the next one
pub record IsAsking (test : TestId) (ask : Ask) (m : Machine) : Type 0 where
  pub once : IsOnce m.state.known
  pub leads : Leads (judge test) m.state.known (Asks ask (λ a. rest (told ask.question a m)))
  pub new : lookup ask.question m.state.known ≡ None
