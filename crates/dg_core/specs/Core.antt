-- A world, and the records that are kept of it.
use Rattle.std.specs.Prelude.{◌≡◌, ◌≤◌, ℕ, ◌+◌, ◌-◌, cond, not, Option, Some, None, Result, Ok, Err, List, [], ◌∷◌, length, take}
use Rattle.std.specs.List.{filter}
use Rattle.dg_transcript.specs.declared.entry.Entry.{Entry}
use Rattle.dg_world.specs.World.{WorldView, new_world, selected}
use Rattle.dg_world.specs.declared.question.Question.{Question}
use Rattle.dg_world.specs.declared.question.Answer.{Answer}
use Rattle.dg_world.specs.declared.edit.Edit.{Edit}
use Rattle.dg_world.specs.declared.refusal.Refusal.{Refusal}
use Rattle.dg_world.specs.declared.test_id.TestId.{TestId}
use Rattle.dg_results.specs.declared.verdict.Line.{Line}
use Rattle.dg_language.specs.Play.{reads_in}
use Rattle.dg_language.specs.Judge.{judge, verdict_in}
use Rattle.dg_records.specs.Truth.{RecordView, answers_of}
use Rattle.dg_records.specs.Shelf.{with_record}
use Rattle.dg_index.specs.Marks.{counted}
use Rattle.dg_index.specs.Kept.{KeptView, is_held, edited_kept, IsAskedOf as IsAnsweredOf, committed as kept_with, committed_live as kept_with_live}

-- a world, the newest record of each test that had one, how many reads were compared with it, and how many evaluations were begun
pub record CoreView : Type 0 where
  pub world : WorldView
  pub shelf : List RecordView
  pub compared : ℕ
  pub evaluations : ℕ

abbrev pub new_core : CoreView
new_core = record { world = new_world; shelf = []; compared = 0; evaluations = 0 }

-- what is kept, without the count of evaluations
abbrev pub kept_of : CoreView → KeptView
kept_of c = record { world = c.world; shelf = c.shelf; compared = c.compared }

-- what is kept, and so many evaluations begun
abbrev pub core_of : KeptView → ℕ → CoreView
core_of k evaluations = record { world = k.world; shelf = k.shelf; compared = k.compared; evaluations = evaluations }

-- a test, unless it is held
abbrev pub unheld : CoreView → TestId → List TestId
unheld c t = cond (not (is_held c.world c.shelf t)) (t ∷ []) []

-- the selected tests that are not held, in order
unfoldable pub pending : CoreView → List TestId
pending c = filter (λ t. not (is_held c.world c.shelf t)) (selected c.world)

abbrev pub lines_or_none : Option (List Line) → List Line
lines_or_none None = []
lines_or_none (Some v) = v

-- the record of a test that is judged in a world: the questions that it asks there, their answers, and its lines
unfoldable pub record_in : WorldView → TestId → RecordView
record_in w t = record { test = t; reads = reads_in (answers_of w) (judge t); verdict = lines_or_none (verdict_in (answers_of w) t) }

-- the shelf on which the records of these tests were put, one after another
unfoldable pub shelf_with : WorldView → List RecordView → List TestId → List RecordView
shelf_with w shelf [] = shelf
shelf_with w shelf (t ∷ ts) = shelf_with w (with_record shelf (record_in w t)) ts

-- the core over a world, once so many of the tests that were pending are judged in it and their records kept, so many evaluations begun, and so many reads compared in all
unfoldable pub settled_up_to : ℕ → ℕ → WorldView → ℕ → CoreView → CoreView
settled_up_to kept_records begun w compared c =
    record { world = w; shelf = shelf_with w c.shelf (take kept_records (pending c)); compared = compared; evaluations = counted c.evaluations begun }

-- the core over a world, once a test is judged in it and its record kept, and so many reads compared in all
abbrev pub with_judged : WorldView → ℕ → CoreView → TestId → CoreView
with_judged w compared c t = record { world = w; shelf = with_record c.shelf (record_in w t); compared = compared; evaluations = counted c.evaluations 1 }

-- Some first pending tests were judged, in the world as it now stands, and their records kept, and at most one evaluation
-- more was begun.
pub record IsPartlySettled (old new : CoreView) : Type 0 where
  pub kept_records : ℕ
  pub begun : ℕ
  pub within : begun ≤ length (pending old)
  pub all_kept : kept_records ≤ begun
  pub at_most_one : begun ≤ kept_records + 1
  pub is_settled : new ≡ settled_up_to kept_records begun new.world new.compared old

-- the core over a world, once all tests that were pending are judged in it, and so many reads compared in all
abbrev pub settled : WorldView → ℕ → CoreView → CoreView
settled w compared c = settled_up_to (length (pending c)) (length (pending c)) w compared c

-- how far the count of evaluations rises then
abbrev pub evaluated : CoreView → ℕ
evaluated c = counted c.evaluations (length (pending c)) - c.evaluations

-- what is kept after a change, with the count of evaluations that was there, or the refusal
abbrev pub with_kept : ℕ → Result KeptView Refusal → Result CoreView Refusal
with_kept evaluations (Ok k) = Ok (core_of k evaluations)
with_kept evaluations (Err refusal) = Err refusal

-- the core after an edit of its world, or the edit's refusal
abbrev pub edited_core : CoreView → Edit → Result CoreView Refusal
edited_core c e = with_kept c.evaluations (edited_kept (kept_of c) e)

-- the core after a question: its world may have one pattern more in its book, whose reads were compared, and nothing else has changed
abbrev pub IsAskedOf : CoreView → CoreView → Question → Answer → Type 0
IsAskedOf old new q a = IsAnsweredOf (kept_of old) (kept_of new) q a × (new.evaluations ≡ old.evaluations)

-- the core after a record was kept, in the place of the one that its test had
abbrev pub committed : CoreView → RecordView → CoreView
committed c r = core_of (kept_with (kept_of c) r) c.evaluations

-- the core after a live run: its record is kept, in the place of the one that its test had, and these sessions are the transcript of its test; or the refusal for want of room
abbrev pub committed_live : CoreView → RecordView → List (List Entry) → Result CoreView Refusal
committed_live c r sessions = with_kept c.evaluations (kept_with_live (kept_of c) r sessions)
