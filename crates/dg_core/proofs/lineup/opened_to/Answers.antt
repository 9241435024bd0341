use Rattle.std.proofs.Common.{IfSome, subst}
use Rattle.dg_core.specs.Lineup.{IsCurrent}
use Rattle.dg_core.proofs.OpeningLemmas.{open-to}
use Rattle.dg_core.proofs.lineup.opened_to.Goals as goal

pub returns-in-Some-clause-lineup : goal.returns-in-Some-clause-lineup
returns-in-Some-clause-lineup c =
    let k = c.args.kept.now in
    open-to k.world k.shelf c.args.edit c.places_touched-edit.result.0.now c.in-Some.lineup c.opened.result
    (subst (λ x. IfSome x (IsCurrent k.world k.shelf)) c.in-Some.is c.requires) c.opened.ensures c.places_touched-edit.ensures.only
