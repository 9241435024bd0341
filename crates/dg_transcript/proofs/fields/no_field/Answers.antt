use Rattle.dg_transcript.proofs.Splitting.{none_behind}
use Rattle.dg_transcript.proofs.fields.no_field.Goals as goal

pub returns-in-Some : goal.returns-in-Some
returns-in-Some c = rw c.in-Some.is (none_behind c.in-Some.field-0.now)
