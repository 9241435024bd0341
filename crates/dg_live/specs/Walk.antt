-- Live runs: which calls of a gate and of an asker answered the questions of a judging.
use Rattle.std.specs.Prelude.{◌≡◌, ◌≢◌, ℕ, ◌+◌, ◌≤◌, true, false, List, [], ◌∷◌, ◌++◌, Option, Some, None}
use Rattle.dg_transcript.specs.declared.entry.Entry.{Entry}
use Rattle.dg_transcript.specs.declared.cursor.Action.{Action}
use Rattle.dg_transcript.specs.Limits.{IsTranscript}
use Rattle.dg_gate.specs.declared.reply.Reply.{Reply}
use Rattle.dg_gate.specs.Reply.{entry_of}
use Rattle.dg_gate.specs.Made.{Made}
use Rattle.dg_world.specs.declared.question.Question.{Question}
use Rattle.dg_world.specs.declared.question.Question.TheVariants as question
use Rattle.dg_world.specs.declared.question.Answer.{Answer}
use Rattle.dg_world.specs.declared.question.Answer.TheVariants as answer
use Rattle.dg_world.specs.declared.question.Read.{Read}
use Rattle.dg_world.specs.declared.test_id.TestId.{TestId}
use Rattle.dg_world.specs.Question.{fits}
use Rattle.dg_language.specs.declared.ask.Ask.{Ask}
use Rattle.dg_language.specs.declared.close.Close.TheVariants.{Departed}
use Rattle.dg_language.specs.Play.{Play, Ends, Asks, Source, Over, run, GivesEach}
use Rattle.dg_language.specs.Evaluation.{Ending}
use Rattle.dg_language.specs.Judge.{judge}
use Rattle.dg_records.specs.Truth.{RecordView}
use Rattle.dg_eval.specs.Evaluating.{NeedsNext}
use Rattle.dg_eval.specs.Truth.{JobView}
use Rattle.dg_eval.specs.Advance.{HasEndedWith}
use Rattle.dg_eval.specs.declared.job.JobFault.TheVariants.{NotAsked, WrongKind, PatternLost, Memory as JobMemory, Failed}
use Rattle.dg_live.specs.declared.fault.LiveFault.{LiveFault}
use Rattle.dg_live.specs.declared.fault.LiveFault.TheVariants.{Job, Asker, Memory}
use Rattle.dg_living.specs.Living.{IsOfBytes, is_about_entry}
use Rattle.dg_living.specs.Replayed.{transcript_of, AllStand, others, TellsOf}

-- what one call of a gate is: the gate before, the session, the action, the reply and the gate after
abbrev pub GateStep : Type 0 → Type 1
GateStep G = G → ℕ → Action → Reply → G → Type 0

-- what one call of an asker is: the asker before, the question, the answer and the asker after
abbrev pub AskerStep : Type 0 → Type 1
AskerStep A = A → Question → Answer → A → Type 0

-- the session that a question about an entry is about
abbrev pub session_of : Question → ℕ
session_of (question.Entry place) = place.session
session_of q = 0

-- an action stands beside the question
abbrev pub Acts : Ask → Type 0
Acts ask = (a : Action) × (ask.action ≡ Some a)

abbrev pub calls_of : Option Action → ℕ
calls_of None = 0
calls_of (Some a) = 1

-- Where an action stands beside a question, one call of the gate makes the entry that answers it; else one call of the asker
-- gives the answer. The other of the two is left alone.
abbrev pub AnswersTo : {G A : Type 0} → GateStep G → AskerStep A → Question → Option Action → Answer → G → A → G → A → Type 0
AnswersTo gates asks q None a g s h u = asks s q a u × (h ≡ g)
AnswersTo gates asks q (Some act) a g s h u =
    (r : Reply) × (e : Entry) × gates g (session_of q) act r h × (entry_of act r ≡ Some e) × (a ≡ answer.Entry e) × (u ≡ s)

-- an entry that answers an action is one of those that gates make, and of bytes
abbrev pub IsKnown : Option Action → Answer → Type 0
IsKnown None a = Unit {0}
IsKnown (Some act) a = (e : Entry) × Made act e × IsOfBytes e × (a ≡ answer.Entry e)

-- the asker is not asked about entries
abbrev pub IsForAsker : Option Action → Question → Type 0
IsForAsker None q = is_about_entry q ≡ false
IsForAsker (Some act) q = Unit {0}

-- Along these reads the questions of a judging were answered one after the other, by these calls and no others.
abbrev pub Walks : {G A : Type 0} → GateStep G → AskerStep A → Play Ending → List Read → G → A → G → A → Type 0
Walks gates asks play [] g s h u = (h ≡ g) × (u ≡ s)
Walks gates asks (Ends e) (r ∷ rs) g s h u = ⊥
Walks {G} {A} gates asks (Asks ask f) (r ∷ rs) g s h u =
    (ask.question ≡ r.question) × IsForAsker ask.action ask.question
    × ((g' : G) × (s' : A) × AnswersTo gates asks ask.question ask.action r.answer g s g' s' × Walks gates asks (f r.answer) rs g' s' h u)

-- A live run of a test. Its transcript is that of the entries that the record read; these are those of the gate's calls, one for
-- each question about an entry, in order, and each other answer is the asker's. In each source that has it as the test's
-- transcript and gives the record's other answers, the judging ends with the record's verdict and without a departure.
pub record IsLiveRun {G A : Type 0} (gates : GateStep G) (asks : AskerStep A) (t : TestId) (g : G) (s : A) (h : G) (u : A) (r : RecordView)
    (ss : List (List Entry)) : Type 0 where
  pub test : r.test ≡ t
  pub walk : Walks gates asks (judge t) r.reads g s h u
  pub transcript : ss ≡ transcript_of r.reads
  pub kept : IsTranscript ss
  pub entries : AllStand t ss r.reads
  pub ending : Ending
  pub verdict : ending.verdict ≡ r.verdict
  pub stays : ending.close ≢ Departed
  pub replay : (look : Source) → GivesEach look (others r.reads) → TellsOf look t ss → run look (judge t) ≡ Over ending

-- One turn: the next question is answered, or the judging has ended and nobody was called.
abbrev pub Turns : {G A : Type 0} → GateStep G → AskerStep A → (G → ℕ) → JobView → JobView → G → A → G → A → Option RecordView → Type 0
Turns gates asks count old new g s h u None =
    (ask : Ask) × (a : Answer) × NeedsNext old.test old.reads ask × (fits ask.question a ≡ true)
    × AnswersTo gates asks ask.question ask.action a g s h u × IsKnown ask.action a × (count h ≤ count g + calls_of ask.action)
    × (new ≡ record old { reads = old.reads ++ record { question = ask.question; answer = a } ∷ []; asked = None; steps = new.steps })
Turns gates asks count old new g s h u (Some r) =
    HasEndedWith old.test old.reads r.verdict new.steps × (r.test ≡ old.test) × (r.reads ≡ old.reads) × (h ≡ g) × (u ≡ s)

-- why a run is refused: a job fails for want of memory, by a pattern that is answered as read and can't be built, or by an answer of another kind
abbrev pub CanFail : LiveFault → Type 0
CanFail (Job NotAsked) = ⊥
CanFail (Job WrongKind) = Unit {0}
CanFail (Job PatternLost) = Unit {0}
CanFail (Job JobMemory) = Unit {0}
CanFail (Job Failed) = ⊥
CanFail (Asker fault) = Unit {0}
CanFail Memory = Unit {0}
