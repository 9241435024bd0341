-- What workers are told, and what they tell.
use Rattle.std.specs.Prelude.{◌≡◌, ◌≢◌, ◌⊎◌, false, List, Option}
use Rattle.dg_core.specs.Core.{CoreView, new_core, pending}
use Rattle.dg_transcript.specs.declared.entry.Entry.{Entry}
use Rattle.dg_world.specs.World.{selected, transcript_of}
use Rattle.dg_world.specs.declared.question.Question.{Question}
use Rattle.dg_world.specs.declared.question.Answer.{Answer}
use Rattle.dg_world.specs.Test.{TestView}
use Rattle.dg_core.specs.declared.reply.Reply.{Reply}
use Rattle.dg_bench.specs.declared.call.Call.TheVariants.{Ask as asked, Report as reported}
use Rattle.dg_bench.specs.declared.refusal.BenchRefusal.TheVariants.{Memory as WantsMemory}
use Rattle.dg_bench.specs.declared.work.Work.{Work}
use Rattle.dg_bench.specs.declared.work.Work.TheVariants.{Live, Rejudge}
use Rattle.dg_bench.specs.declared.work.WorkFault.{WorkFault}
use Rattle.dg_bench.specs.declared.work.WorkFault.TheVariants.{Bench}
use Rattle.dg_bench.specs.History.{Makes}
use Rattle.dg_bench.specs.Seen.{Seen, Told, Kept}
use Rattle.dg_bench.specs.Made.{IsMade, IsLook}
use Rattle.dg_bench.specs.Refusals.{SeesAll, SeesMore}

-- the tests that workers judge: all that are selected, or those that are pending
abbrev pub tests_of : Work → CoreView → List TestView
tests_of Live core = selected core.world
tests_of Rejudge core = pending core

-- a bench that runs lists the tests of its core, and the pass has then seen all calls
abbrev pub Lists : Work → Kept → Seen → Seen → List TestView → Type 0
Lists work kept pass later tests = SeesAll kept pass later × (kept.stopped ≡ false) × Makes new_core kept.calls kept.core × (tests ≡ tests_of work kept.core)

-- the pass has since seen a legal list, which begins with what it had seen, and the tests are those of the core which that list makes
abbrev pub IsListed : Work → Seen → Seen → List TestView → Type 0
IsListed work pass later tests = SeesMore pass later × ((core : CoreView) × Makes new_core later.calls core × (tests ≡ tests_of work core))

-- a bench that runs gives the transcript of a test in its core, if that has one, and the pass has then seen all calls
abbrev pub Recalls : TestView → Kept → Seen → Seen → Option (List (List Entry)) → Type 0
Recalls test kept pass later sessions =
    SeesAll kept pass later × (kept.stopped ≡ false) × Makes new_core kept.calls kept.core × (sessions ≡ transcript_of kept.core.world test)

-- the pass has since seen a legal list, which begins with what it had seen, and the transcript is that of the test in the world which that list makes, if it has one there
abbrev pub IsRecalled : TestView → Seen → Seen → Option (List (List Entry)) → Type 0
IsRecalled test pass later sessions = SeesMore pass later × ((core : CoreView) × Makes new_core later.calls core × (sessions ≡ transcript_of core.world test))

-- an answer of the bench, by a call or by a look
abbrev pub Answers : Seen → Seen → Question → Answer → Type 0
Answers pass later question said = (told : Told) × (IsMade pass later told (asked question said) ⊎ IsLook pass later told question said)

-- The pass has then seen a legal list, which begins with all that it had seen and ends with a report of this reply.
abbrev pub IsReported : Seen → Seen → Reply → Type 0
IsReported pass later reply = (told : Told) × IsMade pass later told (reported reply)

-- The pass comes back as it was, or has since seen a legal list, which begins with all that it had seen. Want of memory is never told as a refusal of the bench.
abbrev pub Stops : Seen → Seen → WorkFault → Type 0
Stops pass back fault = ((back ≡ pass) ⊎ SeesMore pass back) × (fault ≢ Bench WantsMemory)
