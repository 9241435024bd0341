use Rattle.dg_laws.proofs.Awaiting.{first_hit}
use Rattle.dg_laws.proofs.replays.expect_takes_the_first_hit.Goals as goal

pub returns : goal.returns
returns c = first_hit
