use Rattle.std.proofs.Common.{option_copied}
use Rattle.dg_transcript.specs.Spaced.{behind}
use Rattle.dg_transcript.proofs.Splitting.{only_from_first}
use Rattle.dg_transcript.proofs.fields.only_field.Goals as goal

pub returns-in-Some : goal.returns-in-Some
returns-in-Some c = only_from_first (behind (option_copied c.args.fields)) c.in_ok-field.field.now c.in-Some.field-0.now (rw c.in-Some.is at c.in_ok-field.ensures)
