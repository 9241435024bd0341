-- What happens to a core, one event after another, and the report of the records that it keeps.
use Rattle.std.specs.Prelude.{◌≡◌, ◌⊎◌, ℕ, List, [], ◌∷◌, Option, Some, Ok, option_map}
use Rattle.dg_transcript.specs.declared.entry.Entry.{Entry}
use Rattle.dg_world.specs.World.{selected}
use Rattle.dg_world.specs.declared.edit.Edit.{Edit}
use Rattle.dg_world.specs.declared.question.Question.{Question}
use Rattle.dg_world.specs.declared.question.Answer.{Answer}
use Rattle.dg_world.specs.declared.test_id.TestId.{TestId}
use Rattle.dg_records.specs.Truth.{RecordView, IsTrueRecord}
use Rattle.dg_records.specs.Shelf.{kept}
use Rattle.dg_sum.specs.Judged.{Judged}
use Rattle.dg_sum.specs.Report.{report, status}
use Rattle.dg_core.specs.Core.{CoreView, new_core, pending, edited_core, committed, committed_live, IsAskedOf}
use Rattle.dg_core.specs.Scratch.{and_judged, scratch}

-- an edit, a question, a record that is kept, a live run with its record and the sessions of its transcript, or a report
pub data Event : Type 0 where
  Edits : Edit → Event
  Asks : Question → Event
  Commits : RecordView → Event
  Lives : RecordView → List (List Entry) → Event
  Reports : Event

-- what an event makes of a core: where it is refused, or memory runs out, nothing; a report changes nothing
abbrev pub Happens : CoreView → Event → CoreView → Type 0
Happens old (Edits edit) new = (edited_core old edit ≡ Ok new) ⊎ (new ≡ old)
Happens old (Asks question) new = ((answer : Answer) × IsAskedOf old new question answer) ⊎ (new ≡ old)
Happens old (Commits r) new = IsTrueRecord r.test r.reads r.verdict × ((new ≡ committed old r) ⊎ (new ≡ old))
Happens old (Lives r sessions) new = IsTrueRecord r.test r.reads r.verdict × ((committed_live old r sessions ≡ Ok new) ⊎ (new ≡ old))
Happens old Reports new = new ≡ old

abbrev pub Runs : CoreView → List Event → CoreView → Type 0
Runs old [] new = new ≡ old
Runs old (event ∷ events) new = (next : CoreView) × Happens old event next × Runs next events new

-- each test with the verdict of its kept record, if each has one
abbrev pub kept_verdicts : List RecordView → List TestId → Option (List Judged)
kept_verdicts shelf [] = Some []
kept_verdicts shelf (t ∷ ts) = and_judged t (option_map (λ r. r.verdict) (kept shelf t)) (kept_verdicts shelf ts)

-- the report of the kept records, and its status
abbrev pub kept_report : CoreView → Option (List ℕ × ℕ)
kept_report c = option_map (λ js. (report c.world.selection js, status js)) (kept_verdicts c.shelf (selected c.world))

-- after any events, where no test is pending, the kept records give the report of the world as it stands, from scratch
abbrev pub ReportsAfterEventsAreFromScratch : Type 0
ReportsAfterEventsAreFromScratch =
    (events : List Event) (c : CoreView) → Runs new_core events c → pending c ≡ []
    → (sum : List ℕ × ℕ) × (kept_report c ≡ Some sum) × (scratch c.world ≡ Some sum)
