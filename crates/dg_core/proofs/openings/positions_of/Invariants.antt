use Rattle.dg_core.proofs.OpeningLemmas.{FirstLeadBack}
use Rattle.dg_core.proofs.openings.positions_of.Given as goal

abbrev pub invariant-loop-at : goal.invariant-loop-at
invariant-loop-at l = FirstLeadBack l.places l.positions.items l.at
