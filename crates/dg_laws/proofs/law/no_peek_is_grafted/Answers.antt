use Rattle.dg_laws.proofs.Peeking.{peek-not-grafted}
use Rattle.dg_laws.proofs.law.no_peek_is_grafted.Goals as goal

pub returns : goal.returns
returns c = peek-not-grafted
