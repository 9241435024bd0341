-- What a session writes.
use Rattle.std.specs.Prelude.{ℕ, List, [], ◌∷◌, ◌++◌, ◌≡◌, ◌⊎◌, map, take, Option, Some, None, Result, Ok, Err, IsTrue}
use Rattle.std.specs.Result.{result_unwrap_or}
use Rattle.std.specs.Io.KnownBytes.{Appends}
use Rattle.bstr.specs.Records.{records, trim_record}
use Rattle.dg_world.specs.Refusal.{refusal_number}
use Rattle.dg_line.specs.Select.{selection_by}
use Rattle.dg_world.specs.World.{takes_memory}
use Rattle.dg_world.specs.declared.selection.Selection.{Selection}
use Rattle.dg_core.specs.Core.{CoreView, edited_core, settled, evaluated}
use Rattle.dg_core.specs.Grown.{IsGrown}
use Rattle.dg_core.specs.Scratch.{scratch}
use Rattle.dg_session.specs.declared.answer.LineAnswer.{LineAnswer}
use Rattle.dg_session.specs.declared.answer.LineAnswer.TheVariants as answer
use Rattle.dg_session.specs.declared.request.Request.{Request}
use Rattle.dg_session.specs.declared.request.Request.TheVariants as request
use Rattle.dg_world.specs.declared.edit.Edit.{Edit}
use Rattle.dg_world.specs.declared.edit.Edit.TheVariants.{PutFile, RemoveFile, PutTranscript, DropTranscript, Select}
use Rattle.dg_world.specs.declared.refusal.Refusal.{Refusal}
use Rattle.dg_world.specs.declared.refusal.Refusal.TheVariants.{BadTranscript}
use Rattle.dg_transcript.specs.declared.cause.Cause.{Cause}
use Rattle.dg_transcript.specs.declared.cause.Cause.TheVariants as cause
use Rattle.dg_session.specs.Answer.{text_of}
use Rattle.dg_session.specs.Request.{request_of}

-- what the lines of an input ask: each line without its line feed, which the last one may want
abbrev pub requests_of : List ℕ → List Request
requests_of input = map (λ line. request_of (trim_record 10 line)) (records 10 input)

-- the number of what is wrong with a line of a transcript
abbrev pub cause_number : Cause → ℕ
cause_number cause.Header = 1
cause_number cause.Kind = 2
cause_number cause.Field = 3
cause_number cause.SessionOrder = 4
cause_number cause.TooMany = 5
cause_number cause.Truncated = 6
cause_number cause.Memory = 7

-- what a refused edit is answered
abbrev pub refused : Refusal → LineAnswer
refused (BadTranscript line why) = answer.BadTranscript line (cause_number why)
refused refusal = answer.Refused (refusal_number refusal)

-- what an edit is answered
abbrev pub edit_answer : Result CoreView Refusal → LineAnswer
edit_answer (Ok core) = answer.Done
edit_answer (Err refusal) = refused refusal

-- what an edit makes of a core, and what it is answered: a refused edit leaves the core as it was
abbrev pub Edits : CoreView → Edit → CoreView → LineAnswer → Type 0
Edits old edit new given = (new ≡ result_unwrap_or (edited_core old edit) old) × (given ≡ edit_answer (edited_core old edit))

-- and a selection, which there may not be
abbrev pub Selects : CoreView → Option Selection → CoreView → LineAnswer → Type 0
Selects old None new given = (new ≡ old) × (given ≡ answer.Refused 6)
Selects old (Some selection) new given = Edits old (Select selection) new given

-- A report judges the tests that are pending, in a world that differs from the core's by a larger book at most. It is answered
-- with the report of that world from scratch, and with how far the count of evaluations rose.
pub record Reports (old new : CoreView) (given : LineAnswer) : Type 0 where
  pub grown : IsGrown old.world new.world
  pub is_settled : new ≡ settled new.world new.compared old
  pub sum : List ℕ × ℕ
  pub from_scratch : scratch new.world ≡ Some sum
  pub is_answered : given ≡ answer.Sum sum.1 (evaluated old) sum.0

-- what a request makes of a core, and what it is answered
unfoldable pub Follows : CoreView → Request → CoreView → LineAnswer → Type 0
Follows old (request.Put name content) new given = Edits old (PutFile name content) new given
Follows old (request.Remove name) new given = Edits old (RemoveFile name) new given
Follows old (request.PutTranscript board script text) new given = Edits old (PutTranscript board script text) new given
Follows old (request.DropTranscript board script) new given = Edits old (DropTranscript board script) new given
Follows old (request.Select words) new given = Selects old (selection_by words) new given
Follows old request.Report new given = Reports old new given
Follows old request.Unknown new given = (new ≡ old) × (given ≡ answer.Unknown)

-- what requests are answered, each by the core that those before it left, and the core behind them
abbrev pub Writes : CoreView → List Request → List ℕ → CoreView → Type 0
Writes core [] text last = (text ≡ []) × (last ≡ core)
Writes core (request ∷ requests) text last =
    (next : CoreView) × (given : LineAnswer) × (more : List ℕ) × Follows core request next given × (text ≡ text_of given ++ more) × Writes next requests more last

-- a text of a session: what the books of its reports hold beside the core's is open
abbrev pub IsSessionText : CoreView → List ℕ → List ℕ → Type 0
IsSessionText core input text = (last : CoreView) × Writes core (requests_of input) text last

-- what a request is answered where memory runs out, which it can't in a removal
abbrev pub short_answer : Request → Option LineAnswer
short_answer (request.Put name content) = Some (answer.Refused 8)
short_answer (request.Remove name) = None
short_answer (request.PutTranscript board script text) = Some (answer.Refused 8)
short_answer (request.DropTranscript board script) = None
short_answer (request.Select words) = Some (answer.Refused 8)
short_answer request.Report = Some (answer.Fault 2)
short_answer request.Unknown = None

-- what a request is answered that does not come to its end: for want of memory, or where a report needs a pattern that was answered as read and can't be built
abbrev pub IsShort : Request → LineAnswer → Type 0
IsShort next given = (short_answer next ≡ Some given) ⊎ ((next ≡ request.Report) × (given ≡ answer.Fault 1))

-- the answers to some first requests, then to the next one that it did not come to its end, and then any bytes
abbrev pub RunsShort : CoreView → List Request → List ℕ → Type 0
RunsShort core requests text =
    (first : List Request) × (next : Request) × (others : List Request) × (done : List ℕ) × (last : CoreView) × (short : LineAnswer) × (more : List ℕ)
    × (requests ≡ first ++ next ∷ others) × Writes core first done last × IsShort next short × (text ≡ done ++ text_of short ++ more)

-- what a session may write to its end: its text, or what it is where a line does not come to its end
abbrev pub IsAnswered : CoreView → List ℕ → List ℕ → Type 0
IsAnswered core input text = IsSessionText core input text ⊎ RunsShort core (requests_of input) text

-- known bytes grow by a front of a text
abbrev pub AppendsFront : Option (List ℕ) → Option (List ℕ) → List ℕ → Type 0
AppendsFront old new text = (k : ℕ) × Appends old new (take k text)

-- known bytes grow by what a session may write
abbrev pub Answers : CoreView → List ℕ → Option (List ℕ) → Option (List ℕ) → Type 0
Answers core input old new = (text : List ℕ) × IsAnswered core input text × Appends old new text

-- known bytes grow by a front of what a session may write
abbrev pub AnswersFront : CoreView → List ℕ → Option (List ℕ) → Option (List ℕ) → Type 0
AnswersFront core input old new = (text : List ℕ) × IsAnswered core input text × AppendsFront old new text

-- an edit was made or refused, or memory ran out where it takes some
abbrev pub AnswersEdit : CoreView → CoreView → Edit → LineAnswer → Type 0
AnswersEdit old new edit given = Edits old edit new given ⊎ (IsTrue (takes_memory old.world edit) × (given ≡ answer.Refused 8))

-- the report was given, or it did not come to its end
abbrev pub AnswersReport : CoreView → CoreView → LineAnswer → Type 0
AnswersReport old new given = Reports old new given ⊎ IsShort request.Report given

-- one request was answered: by the new core and its answer, or it did not come to its end
abbrev pub AnswersOne : CoreView → CoreView → Request → LineAnswer → Type 0
AnswersOne old new request given = Follows old request new given ⊎ IsShort request given

-- a line was answered
abbrev pub AnswersLine : CoreView → CoreView → List ℕ → Option (List ℕ) → Option (List ℕ) → Type 0
AnswersLine old new line out written = (given : LineAnswer) × AnswersOne old new (request_of (trim_record 10 line)) given × Appends out written (text_of given)

-- a front of an answer to a line was written
abbrev pub AnswersLineFront : CoreView → List ℕ → Option (List ℕ) → Option (List ℕ) → Type 0
AnswersLineFront old line out written =
    (new : CoreView) × (given : LineAnswer) × AnswersOne old new (request_of (trim_record 10 line)) given × AppendsFront out written (text_of given)
