-- A world with the records that are kept of it, and how many of their reads were compared with it.
use Rattle.std.specs.Prelude.{◌≡◌, ℕ, suc, Bool, false, cond, IsTrue, Option, option_map, Some, None, List, [], ◌∷◌, length, Result, Ok, Err}
use Rattle.std.specs.List.{list_all}
use Rattle.dg_transcript.specs.declared.entry.Entry.{Entry}
use Rattle.dg_world.specs.Test.{same_test}
use Rattle.dg_world.specs.World.{WorldView, new_world, look, edited, recorded, IsAsked}
use Rattle.dg_world.specs.declared.question.Question.{Question}
use Rattle.dg_world.specs.declared.question.Answer.{Answer}
use Rattle.dg_world.specs.declared.edit.Edit.{Edit}
use Rattle.dg_world.specs.declared.refusal.Refusal.{Refusal}
use Rattle.dg_world.specs.declared.test_id.TestId.{TestId}
use Rattle.dg_records.specs.Truth.{RecordView, holds}
use Rattle.dg_records.specs.Shelf.{kept, with_record}
use Rattle.dg_index.specs.Topic.{topic_of, touched}
use Rattle.dg_index.specs.Marks.{MarkedView, marks_in, reads_of, counted}
use Rattle.dg_index.specs.Index.{IndexView, NamesAll}
use Rattle.dg_index.specs.declared.topic.Topic.{Topic}
use Rattle.dg_index.specs.declared.topic.Topic.TheVariants as topic

-- a world, the newest record of each test that had one, and how many reads were compared
pub record KeptView : Type 0 where
  pub world : WorldView
  pub shelf : List RecordView
  pub compared : ℕ

-- a new world, of which nothing is kept
abbrev pub new_kept : KeptView
new_kept = record { world = new_world; shelf = []; compared = 0 }

abbrev pub holds_if_kept : WorldView → Option RecordView → Bool
holds_if_kept w None = false
holds_if_kept w (Some r) = holds w r

-- a test is held if its kept record holds
abbrev pub is_held : WorldView → List RecordView → TestId → Bool
is_held w shelf t = holds_if_kept w (kept shelf t)

-- the place of a test's record, if it has one
abbrev pub place_of : List RecordView → TestId → Option ℕ
place_of [] t = None
place_of (r ∷ rs) t = cond (same_test t r.test) (Some 0) (option_map suc (place_of rs t))

-- what a change of the world makes, where each read of a topic is compared, or its refusal
abbrev pub changed : KeptView → Topic → Result WorldView Refusal → Result KeptView Refusal
changed k t (Ok w) = Ok (record k { world = w; compared = counted k.compared (reads_of t k.shelf) })
changed k t (Err refusal) = Err refusal

-- after an edit each read of what it touches was compared, and no other
abbrev pub edited_kept : KeptView → Edit → Result KeptView Refusal
edited_kept k e = changed k (touched e) (edited k.world e)

-- after a question that had this answer: where it had none, each read of its topic was compared
abbrev pub after_asking : KeptView → Question → Option Answer → WorldView → KeptView
after_asking k q None w = record k { world = w; compared = counted k.compared (reads_of (topic_of q) k.shelf) }
after_asking k q (Some a) w = record k { world = w }

-- a question was answered: its world may have one pattern more in its book
abbrev pub IsAskedOf : KeptView → KeptView → Question → Answer → Type 0
IsAskedOf old new q a = IsAsked old.world new.world q a × (new ≡ after_asking old q (look old.world q) new.world)

-- after a record was kept, in the place of the one that its test had, its reads were compared
abbrev pub committed : KeptView → RecordView → KeptView
committed k r = record k { shelf = with_record k.shelf r; compared = counted k.compared (length r.reads) }

-- then, or the refusal of what went before
abbrev pub then_committed : RecordView → Result KeptView Refusal → Result KeptView Refusal
then_committed r (Ok k) = Ok (committed k r)
then_committed r (Err refusal) = Err refusal

-- after a live run: these sessions are the transcript of its test, and its record is kept; or the refusal for want of room
abbrev pub committed_live : KeptView → RecordView → List (List Entry) → Result KeptView Refusal
committed_live k r sessions = then_committed r (changed k (topic.Transcript r.test.board r.test.script) (recorded k.world r.test sessions))

-- each record's marks are those of its reads in a world
abbrev pub AllMarked : WorldView → List (TestId × MarkedView) → Type 0
AllMarked w [] = Unit {0}
AllMarked w (e ∷ es) = (e.1.marks ≡ marks_in w e.1.record_of.reads) × AllMarked w es

-- whether a record stands under its test
abbrev pub is_keyed : TestId × MarkedView → Bool
is_keyed e = same_test e.0 e.1.record_of.test

-- the records stand under their tests, marked as the world is now, and the index names what they read
pub record IsKept (w : WorldView) (es : List (TestId × MarkedView)) (index : IndexView) : Type 0 where
  pub keyed : IsTrue (list_all is_keyed es)
  pub marked : AllMarked w es
  pub named : NamesAll index 0 es
