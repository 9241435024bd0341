use Rattle.dg_laws.proofs.Judging.{open_board-grafted}
use Rattle.dg_laws.proofs.law.the_judging_is_grafted.Goals as goal

pub returns : goal.returns
returns c = open_board-grafted
