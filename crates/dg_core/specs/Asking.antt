-- A job that is told what a world answers, whose book may grow meanwhile.
use Rattle.std.specs.Prelude.{◌≡◌, ◌<◌, ◌≤◌, ◌++◌, true, false, Option, Some, None, List}
use Rattle.dg_world.specs.World.{WorldView}
use Rattle.dg_world.specs.declared.question.Read.{Read}
use Rattle.dg_world.specs.declared.test_id.TestId.{TestId}
use Rattle.dg_results.specs.declared.verdict.Line.{Line}
use Rattle.dg_language.specs.Evaluation.{Ending}
use Rattle.dg_language.specs.Play.{Play, GivesEach, Leads, reads_in}
use Rattle.dg_language.specs.Judge.{judge, verdict_in}
use Rattle.dg_records.specs.Truth.{RecordView, answers_of}
use Rattle.dg_eval.specs.Lost.{HasReadPattern}
use Rattle.dg_eval.specs.Advance.{Advances}
use Rattle.dg_eval.specs.Truth.{JobView}
use Rattle.dg_eval.specs.declared.job.Turn.{Turn}
use Rattle.dg_eval.specs.declared.job.JobFault.{JobFault}
use Rattle.dg_eval.specs.declared.job.JobFault.TheVariants.{NotAsked, WrongKind, PatternLost, Memory, Failed}
use Rattle.dg_index.specs.Kept.{KeptView}
use Rattle.dg_core.specs.Core.{record_in}
use Rattle.dg_core.specs.Turning.{AsksInTurn}
use Rattle.dg_core.specs.Turns.{turns_left}

-- all that the judging of a test reads in a world
unfoldable pub all_reads : WorldView → TestId → List Read
all_reads w t = reads_in (answers_of w) (judge t)

-- the judging of a test comes to its end in a world
abbrev pub HasVerdict : WorldView → TestId → Type 0
HasVerdict w t = (lines : List Line) × (verdict_in (answers_of w) t ≡ Some lines)

-- a job of a test that was told nothing but this world's answers, and asks nothing now
pub record IsTold (w : WorldView) (t : TestId) (j : JobView) : Type 0 where
  pub test : j.test ≡ t
  pub live : j.live ≡ true
  pub failed : j.failed ≡ false
  pub asked : j.asked ≡ None
  pub gives : GivesEach (answers_of w) j.reads
  pub rest : Play Ending
  pub leads : Leads (judge t) j.reads rest

-- questions more were asked in turn, at least one, and their answers told; fewer turns are left
pub record IsToldMore (before after : KeptView) (old new : JobView) : Type 0 where
  pub told : IsTold after.world old.test new
  pub same : new.test ≡ old.test
  pub fewer : turns_left after.world old.test new.reads < turns_left before.world old.test old.reads
  pub more : List Read
  pub asked : AsksInTurn before more after
  pub reads : new.reads ≡ old.reads ++ more

-- A job was told the answers that a world has, which changes nothing of it; then a turn came to this.
pub record Stops (k : KeptView) (old new : JobView) (turn : Turn) : Type 0 where
  pub last : JobView
  pub told : IsTold k.world old.test last
  pub same : last.test ≡ old.test
  pub fewer : turns_left k.world old.test last.reads ≤ turns_left k.world old.test old.reads
  pub more : List Read
  pub asked : AsksInTurn k more k
  pub reads : last.reads ≡ old.reads ++ more
  pub advances : Advances last new turn

-- the record of a test in a world, where its judging comes to its end
pub record Judges (w : WorldView) (t : TestId) (r : RecordView) : Type 0 where
  pub made : r ≡ record_in w t
  pub ends : HasVerdict w t

-- the record of a test in a world, which read what the job was told, and what was asked in turn after that
abbrev pub Ends : KeptView → JobView → RecordView → Type 0
Ends k old r = Judges k.world old.test r × ((more : List Read) × AsksInTurn k more k × (r.reads ≡ old.reads ++ more))

-- what turns come to: answers more, or the record of the test
abbrev pub Takes : KeptView → KeptView → JobView → JobView → Option RecordView → Type 0
Takes before after old new None = IsToldMore before after old new
Takes before after old new (Some r) = Ends before old r × (after ≡ before)

-- why a judging fails in a world: for want of memory, or where it reads a pattern that is answered as read
abbrev pub Fails : WorldView → TestId → JobFault → Type 0
Fails w t NotAsked = ⊥
Fails w t WrongKind = ⊥
Fails w t PatternLost = HasReadPattern (all_reads w t)
Fails w t Memory = Unit {0}
Fails w t Failed = ⊥
