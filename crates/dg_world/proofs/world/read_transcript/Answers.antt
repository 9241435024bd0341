use Rattle.dg_world.proofs.TranscriptLemmas.{transcript_of_text, told_fault}
use Rattle.dg_world.proofs.world.read_transcript.Goals as goal

pub returns-in-Ok-clause-ok : goal.returns-in-Ok-clause-ok
returns-in-Ok-clause-ok c = transcript_of_text c.args.text.now c.in-Ok.transcript c.in-Ok.ensures.found

pub returns-in-Err-clause-which : goal.returns-in-Err-clause-which
returns-in-Err-clause-which c = rw c.refusal_for.ensures (told_fault c.args.text.now c.in-Err.line c.in-Err.cause c.in-Err.ensures.fault)
