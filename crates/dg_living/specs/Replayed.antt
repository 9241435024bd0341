-- A judging that gates and askers answered, and the replay of its transcript.
use Rattle.std.specs.Prelude.{◌≡◌, ◌≢◌, ℕ, ◌-◌, true, false, List, [], ◌∷◌, Option, Some, None}
use Rattle.std.specs.List.{AllByRecursion}
use Rattle.dg_transcript.specs.declared.entry.Entry.{Entry}
use Rattle.dg_transcript.specs.declared.cursor.Action.{Action}
use Rattle.dg_transcript.specs.Limits.{IsTranscript}
use Rattle.dg_transcript.specs.Sessions.{entry_at}
use Rattle.dg_gate.specs.Made.{Made}
use Rattle.dg_world.specs.declared.question.Question.{Question}
use Rattle.dg_world.specs.declared.question.Question.TheVariants as question
use Rattle.dg_world.specs.declared.question.Answer.{Answer}
use Rattle.dg_world.specs.declared.question.Answer.TheVariants as answer
use Rattle.dg_world.specs.declared.question.Read.{Read}
use Rattle.dg_world.specs.declared.test_id.TestId.{TestId}
use Rattle.dg_world.specs.Question.{fits}
use Rattle.dg_world.specs.Transcripts.{entry_answer}
use Rattle.dg_language.specs.declared.close.Close.TheVariants.{Departed}
use Rattle.dg_language.specs.Play.{Play, Ends, Asks, Source, Over, run, GivesEach}
use Rattle.dg_language.specs.Evaluation.{Ending}
use Rattle.dg_language.specs.Judge.{judge}
use Rattle.dg_living.specs.Living.{IsOfBytes, is_about_entry, with_entry}

-- How a question may be answered live: where an action stands beside it, by an entry that a gate may make of that; else by any
-- answer of its kind.
abbrev pub MayAnswer : Question → Option Action → Answer → Type 0
MayAnswer q None a = fits q a ≡ true
MayAnswer q (Some act) a = (e : Entry) × Made act e × IsOfBytes e × (a ≡ answer.Entry e)

-- a judging asks just these questions first, and with these answers, each of which it may have live, goes on to that
abbrev pub LeadsLive : Play Ending → List Read → Play Ending → Type 0
LeadsLive play [] rest = play ≡ rest
LeadsLive (Ends e) (r ∷ rs) rest = ⊥
LeadsLive (Asks ask f) (r ∷ rs) rest =
    (ask.question ≡ r.question) × MayAnswer ask.question ask.action r.answer × LeadsLive (f r.answer) rs rest

-- the entries that were answered, session by session, behind those of the sessions so far
abbrev pub told_entry : Question → Answer → List (List Entry) → List (List Entry)
told_entry (question.Entry place) (answer.Entry e) ss = with_entry (place.session - 1) e ss
told_entry q a ss = ss

abbrev pub told_entries : List (List Entry) → List Read → List (List Entry)
told_entries ss [] = ss
told_entries ss (r ∷ rs) = told_entries (told_entry r.question r.answer ss) rs

-- the transcript that reads make
abbrev pub transcript_of : List Read → List (List Entry)
transcript_of reads = told_entries [] reads

-- what was read about an entry of the test is the entry that stands at its place in the transcript
abbrev pub StandsIn : TestId → List (List Entry) → Question → Answer → Type 0
StandsIn t ss (question.Entry place) a =
    (place.test ≡ t) × ((e : Entry) × (a ≡ answer.Entry e) × (entry_at ss place.session place.place ≡ Some e))
StandsIn t ss q a = Unit {0}

abbrev pub AllStand : TestId → List (List Entry) → List Read → Type 0
AllStand t ss reads = AllByRecursion (λ r. StandsIn t ss r.question r.answer) reads

-- what was read, but for the entries
abbrev pub others : List Read → List Read
others [] = []
others (r ∷ rs) = elim (is_about_entry r.question) [ true ↦ others rs | false ↦ r ∷ others rs ]

-- a source has these sessions as the transcript of the test
abbrev pub TellsOf : Source → TestId → List (List Entry) → Type 0
TellsOf look t ss =
    (n place : ℕ) → look (question.Entry (record { test = t; session = n; place = place })) ≡ Some (entry_answer (entry_at ss n place))

-- The entries that were read form a transcript and stand in it at their places. In each source that has it as the test's and
-- gives the other answers, the judging comes to this end, and that is no departure.
pub record IsReplayed (t : TestId) (reads : List Read) (e : Ending) : Type 0 where
  pub transcript : IsTranscript (transcript_of reads)
  pub entries : AllStand t (transcript_of reads) reads
  pub replay : (look : Source) → GivesEach look (others reads) → TellsOf look t (transcript_of reads) → run look (judge t) ≡ Over e
  pub stays : e.close ≢ Departed

-- What a judging came to live, it comes to in the replay of its transcript.
abbrev pub LiveJudgingsAreReplayed : Type 0
LiveJudgingsAreReplayed = (t : TestId) (reads : List Read) (e : Ending) → LeadsLive (judge t) reads (Ends e) → IsReplayed t reads e
