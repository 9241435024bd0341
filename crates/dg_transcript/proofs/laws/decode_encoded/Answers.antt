use Rattle.std.proofs.Common.{◌∙◌}
use Rattle.dg_transcript.proofs.laws.decode_encoded.Goals as goal

pub returns-in-Ok : goal.returns-in-Ok
returns-in-Ok c = c.decode.ensures.only c.args.transcript.now c.sessions-sessions.ensures.kept (c.as_slice.ensures ∙ c.in-Ok.ensures)
