use Rattle.dg_laws.proofs.Buffering.{chunks_come}
use Rattle.dg_laws.proofs.replays.chunks_come_into_the_buffer.Goals as goal

pub returns : goal.returns
returns c = chunks_come
