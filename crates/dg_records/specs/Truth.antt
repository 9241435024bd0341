-- When a record is true, and when it holds in a world.
use Rattle.std.specs.Prelude.{◌≡◌, Bool, false, Option, None, Some, List, All}
use Rattle.std.specs.List.{list_all}
use Rattle.dg_world.specs.Question.{same_answer}
use Rattle.dg_world.specs.declared.question.Question.{Question}
use Rattle.dg_world.specs.declared.question.Answer.{Answer}
use Rattle.dg_world.specs.declared.question.Read.{Read}
use Rattle.dg_world.specs.declared.test_id.TestId.{TestId}
use Rattle.dg_world.specs.World.{WorldView, look}
use Rattle.dg_results.specs.declared.verdict.Line.{Line}
use Rattle.dg_language.specs.Play.{Source, GivesEach, run, Over}
use Rattle.dg_language.specs.Evaluation.{Ending}
use Rattle.dg_language.specs.Judge.{judge, verdict_in}

-- a test, what was read, and the lines
pub record RecordView : Type 0 where
  pub test : TestId
  pub reads : List Read
  pub verdict : List Line

-- in every source that gives these answers, the test has this verdict
pub record IsTrueRecord (test : TestId) (reads : List Read) (verdict : List Line) : Type 0 where
  pub holds : (source : Source) → GivesEach source reads → verdict_in source test ≡ Some verdict

-- the answers of a world
abbrev pub answers_of : WorldView → Source
answers_of = look

-- each read has the answer that the world gives now
abbrev pub Agree : List Read → WorldView → Type 0
Agree reads w = All (λ r. look w r.question ≡ Some r.answer) reads

-- whether an answer is given, and is this
abbrev pub is_given : Option Answer → Answer → Bool
is_given None a = false
is_given (Some b) a = same_answer b a

-- whether a record holds in a world: each read has the answer that the world gives now
abbrev pub holds : WorldView → RecordView → Bool
holds w r = list_all (λ read. is_given (look w read.question) read.answer) r.reads

-- a true record whose reads agree with a world has the verdict that its test has in that world
abbrev pub AgreeingWorldsGiveTheVerdict : Type 0
AgreeingWorldsGiveTheVerdict =
    (w : WorldView) (r : RecordView) → IsTrueRecord r.test r.reads r.verdict → Agree r.reads w → verdict_in (look w) r.test ≡ Some r.verdict

-- what more answers can't change: a source that gives each answer that another gives, gives the same verdict
abbrev pub MoreAnswersKeepTheVerdict : Type 0
MoreAnswersKeepTheVerdict =
    (test : TestId) (few more : Source) → ((q : Question) (a : Answer) → few q ≡ Some a → more q ≡ Some a)
    → (e : Ending) → run few (judge test) ≡ Over e → run more (judge test) ≡ Over e
