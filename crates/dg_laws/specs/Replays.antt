-- What an action on a session comes to in a source that answers the session's entries from a list.
use Rattle.std.specs.Prelude.{◌≡◌, ℕ, ◌+◌, ◌<◌, ◌≤◌, List, [], ◌∷◌, length, Some}
use Rattle.dg_sessions.specs.declared.sessions.TheConstants.{MAX_USED}
use Rattle.dg_transcript.specs.declared.entry.Entry.{Entry}
use Rattle.dg_transcript.specs.declared.cursor.Action.{Action}
use Rattle.dg_transcript.specs.Replay.{Left, Outcome, answered, timed_out, departed, replay}
use Rattle.dg_sessions.specs.Views.{SessionView, most_entries, session_at}
use Rattle.dg_sessions.specs.Steps.{with_chunk}
use Rattle.dg_world.specs.declared.question.Question.TheVariants as question
use Rattle.dg_world.specs.declared.question.Answer.TheVariants as answer
use Rattle.dg_world.specs.declared.question.Question.{Question}
use Rattle.dg_world.specs.declared.test_id.TestId.{TestId}
use Rattle.dg_language.specs.Play.{Play, Source, GivesEach, run}
use Rattle.dg_language.specs.State.{State}
use Rattle.dg_language.specs.Evaluation.{Ending}
use Rattle.dg_language.specs.Sessions.{Told, Late, depart, perform}

-- the question for the entry of session n at a place, in the transcript of a test
abbrev pub entry_question : TestId → ℕ → ℕ → Question
entry_question test n place = question.Entry (record { test = test; session = n; place = place })

-- from a place on, a source tells of these entries of session n, and then of the end of its record
abbrev pub Tells : Source → TestId → ℕ → ℕ → List Entry → Type 0
Tells look test n place [] = look (entry_question test n place) ≡ Some answer.Ended
Tells look test n place (e ∷ es) = (look (entry_question test n place) ≡ Some (answer.Entry e)) × Tells look test n (place + 1) es

-- What was answered so far the source gives too, and session n has this left of its record: of which the source tells, and which is
-- so short that not all entries of an evaluation come to be used up.
pub record Stands (look : Source) (n max : ℕ) (s : State) (l : Left) : Type 0 where
  pub given : GivesEach look s.known
  pub session : SessionView
  pub there : session_at n s.sessions ≡ Some session
  pub wait : session.cursor.wait ≡ l.wait
  pub buffer : session.buffer ≡ l.buffer
  pub kept : session.max ≡ max
  pub tells : Tells look s.test n session.cursor.place l.entries
  pub room : s.sessions.used + length l.entries < most_entries
  pub within : session.cursor.place + length l.entries ≤ MAX_USED

-- only the sessions have changed, and what is known
abbrev pub OnlySessions : State → State → Type 0
OnlySessions s t = t ≡ record s { known = t.known; sessions = t.sessions }

-- What an action on session n goes on with in the source: with the entry that answers it, from what is left then; with what is done when its
-- limit has passed; or it departs.
abbrev pub ComesTo : Source → ℕ → ℕ → Told → Late → State → Play Ending → Outcome → Type 0
ComesTo look n max told late s play (answered e l a) =
    (t : State) × (run look play ≡ run look (told e t (perform n a told late t))) × OnlySessions s t × Stands look n max t l
ComesTo look n max told late s play (timed_out l) =
    (t : State) × (run look play ≡ run look (late t)) × OnlySessions s t × Stands look n max t l
ComesTo look n max told late s play departed = (t : State) × (run look play ≡ run look (depart t)) × OnlySessions s t

-- In a source that answers a session's entries from a list, an action comes to the replay of that list.
abbrev pub ActionsAreReplayed : Type 0
ActionsAreReplayed =
    (look : Source) (n max : ℕ) (a : Action) (told : Told) (late : Late) (s : State) (l : Left) → Stands look n max s l
    → ComesTo look n max told late s (perform n a told late s) (replay (with_chunk max) a l)
