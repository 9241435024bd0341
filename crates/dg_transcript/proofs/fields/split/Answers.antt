use Rattle.std.proofs.Common.{sym}
use Rattle.dg_transcript.proofs.Splitting.{split_some, split_none}
use Rattle.dg_transcript.proofs.fields.split.Goals as goal

pub returns-in-Some : goal.returns-in-Some
returns-in-Some c = split_some c.args.text.now c.in-Some.at (sym c.in-Some.ensures)

pub returns-in-None : goal.returns-in-None
returns-in-None c = split_none c.args.text.now (sym c.in-None.ensures)
