-- What a job keeps.
use Rattle.std.specs.Prelude.{◌≡◌, ℕ, Bool, true, false, List, [], Option, Some, None}
use Rattle.dg_language.specs.declared.ask.Ask.{Ask}
use Rattle.dg_world.specs.declared.question.Read.{Read}
use Rattle.dg_world.specs.declared.test_id.TestId.{TestId}
use Rattle.dg_eval.specs.declared.stage.Stage.{Stage}
use Rattle.dg_eval.specs.declared.stage.Stage.TheVariants.{Running, Asking, Finished, Failed}

-- what a job holds is the judging of its test
abbrev pub IsStage : TestId → Stage → Type 0
IsStage test (Running e) = e.test ≡ test
IsStage test (Asking a) = a.test ≡ test
IsStage test (Finished r) = Unit {0}
IsStage test Failed = Unit {0}

abbrev pub reads_of : Stage → List Read
reads_of (Running e) = e.reads
reads_of (Asking a) = a.reads
reads_of (Finished r) = []
reads_of Failed = []

abbrev pub asked_of : Stage → Option Ask
asked_of (Running e) = None
asked_of (Asking a) = Some a.ask
asked_of (Finished r) = None
asked_of Failed = None

abbrev pub is_live : Stage → Bool
is_live (Running e) = true
is_live (Asking a) = true
is_live (Finished r) = false
is_live Failed = false

abbrev pub has_failed : Stage → Bool
has_failed (Running e) = false
has_failed (Asking a) = false
has_failed (Finished r) = false
has_failed Failed = true

-- a job as its callers see it: its test, the answers so far, the question that stands, whether it goes on, whether it
-- has failed, and the steps that were taken up to its last turn
pub record JobView : Type 0 where
  pub test : TestId
  pub reads : List Read
  pub asked : Option Ask
  pub live : Bool
  pub failed : Bool
  pub steps : ℕ
