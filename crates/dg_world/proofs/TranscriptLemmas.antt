-- What the text of a transcript is read as.
use Rattle.std.proofs.Common.{◌≡◌, ◌⊎◌, ℕ, List, refl, ap, inl, inr}
use Rattle.std.specs.Prelude.{Ok, Err}
use Rattle.dg_transcript.specs.declared.cause.Cause.{Cause}
use Rattle.dg_transcript.specs.declared.cause.Cause.TheVariants as cause
use Rattle.dg_transcript.specs.declared.entry.Entry.{Entry}
use Rattle.dg_transcript.specs.Limits.{IsTranscript}
use Rattle.dg_transcript.specs.Lines.{IsFault}
use Rattle.dg_transcript.specs.Text.{text_of}
use Rattle.dg_transcript.proofs.DecodedLemmas.{decoded_of_text, decoded_of_bad}
use Rattle.dg_world.specs.Transcripts.{read_or_refused, transcript_in, refusal_for}
use Rattle.dg_world.specs.declared.refusal.Refusal.TheVariants.{Memory}

pub transcript_of_text : (text : List ℕ) (ss : List (List Entry)) → IsTranscript ss × (text ≡ text_of ss) → transcript_in text ≡ Ok ss
transcript_of_text text ss h = ap read_or_refused (decoded_of_text text ss h.0 h.1)

-- a fault of reading is want of memory, or tells the first bad line
pub told_fault : (text : List ℕ) (n : ℕ) (why : Cause) → IsFault text n why → (refusal_for n why ≡ Memory) ⊎ (transcript_in text ≡ Err (refusal_for n why))
told_fault text n cause.Header h = inr (ap read_or_refused (decoded_of_bad text n cause.Header h))
told_fault text n cause.Kind h = inr (ap read_or_refused (decoded_of_bad text n cause.Kind h))
told_fault text n cause.Field h = inr (ap read_or_refused (decoded_of_bad text n cause.Field h))
told_fault text n cause.SessionOrder h = inr (ap read_or_refused (decoded_of_bad text n cause.SessionOrder h))
told_fault text n cause.TooMany h = inr (ap read_or_refused (decoded_of_bad text n cause.TooMany h))
told_fault text n cause.Truncated h = inr (ap read_or_refused (decoded_of_bad text n cause.Truncated h))
told_fault text n cause.Memory h = inl refl
