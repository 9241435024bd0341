use Rattle.std.proofs.Common.{subst}
use Rattle.dg_index.specs.Index.{is_among}
use Rattle.dg_index.specs.Topic.{touched}
use Rattle.dg_index.specs.Touching.{OnlyTheseRead}
use Rattle.dg_index.proofs.TouchingLemmas.{only-touched}
use Rattle.dg_index.proofs.kept.Kept.places_touched.Goals as goal

pub returns-clause-only : goal.returns-clause-only
returns-clause-only c =
    let k = c.self.inside in
    let t = touched c.args.edit in
    let places = c.places_touched.result.0.now in
    subst (λ x. OnlyTheseRead (is_among places) t x.shelf) c.self.view_is
    (only-touched k.index t k.records.entries places c.places_touched.ensures.places c.self.invariant.0.named)
