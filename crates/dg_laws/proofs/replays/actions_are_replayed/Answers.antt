use Rattle.dg_laws.proofs.Replaying.{actions_replayed}
use Rattle.dg_laws.proofs.replays.actions_are_replayed.Goals as goal

pub returns : goal.returns
returns c = actions_replayed
