-- The transcripts of a world.
use Rattle.std.specs.Prelude.{ℕ, List, Option, Some, None, Result, Ok, Err}
use Rattle.dg_transcript.specs.declared.cause.Cause.{Cause}
use Rattle.dg_transcript.specs.declared.cause.Cause.TheVariants as cause
use Rattle.dg_transcript.specs.declared.entry.Entry.{Entry}
use Rattle.dg_transcript.specs.Decoded.{decoded}
use Rattle.dg_world.specs.Test.{TestView}
use Rattle.dg_world.specs.declared.refusal.Refusal.{Refusal}
use Rattle.dg_world.specs.declared.refusal.Refusal.TheVariants.{BadName, BadTranscript, Memory}
use Rattle.dg_world.specs.declared.question.Answer.{Answer}
use Rattle.dg_world.specs.declared.question.Answer.TheVariants as answer

-- the sessions of a text, or the refusal that tells its first bad line
abbrev pub read_or_refused : Result (List (List Entry)) (ℕ × Cause) → Result (List (List Entry)) Refusal
read_or_refused (Ok ss) = Ok ss
read_or_refused (Err (line, why)) = Err (BadTranscript line why)

abbrev pub transcript_in : List ℕ → Result (List (List Entry)) Refusal
transcript_in text = read_or_refused (decoded text)

-- the refusal for a fault of reading
abbrev pub refusal_for : ℕ → Cause → Refusal
refusal_for line cause.Memory = Memory
refusal_for line why = BadTranscript line why

-- goes on with a test, if the bytes are those of one
abbrev pub for_test : {A : Type 0} → Option TestView → (TestView → Result A Refusal) → Result A Refusal
for_test None f = Err BadName
for_test (Some t) f = f t

-- goes on with the sessions that were read
abbrev pub for_sessions : {A : Type 0} → Result (List (List Entry)) Refusal → (List (List Entry) → A) → Result A Refusal
for_sessions (Err refusal) f = Err refusal
for_sessions (Ok ss) f = Ok (f ss)

-- what a world answers where this entry stands at the place, or none does
abbrev pub entry_answer : Option Entry → Answer
entry_answer None = answer.Ended
entry_answer (Some e) = answer.Entry e
