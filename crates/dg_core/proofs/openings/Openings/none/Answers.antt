use Rattle.std.proofs.Common.{sym, subst}
use Rattle.dg_core.specs.Lineup.{AllLeadBack}
use Rattle.dg_core.proofs.openings.Openings.none.Goals as goal

pub returns-clause-lead : goal.returns-clause-lead
returns-clause-lead c = subst (AllLeadBack c.args.places.now) (sym c.from_vec.ensures) c.in_ok-positions.ensures
