use Rattle.dg_match.proofs.ChunkLemmas.{heard_together}
use Rattle.dg_match.proofs.law.chunks_are_heard_together.Goals as goal

pub returns : goal.returns
returns c = heard_together
