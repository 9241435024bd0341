use Rattle.dg_living.proofs.Walking.{live-replayed}
use Rattle.dg_living.proofs.law.live_judgings_are_replayed.Goals as goal

pub returns : goal.returns
returns c = live-replayed
