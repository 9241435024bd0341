use Rattle.std.proofs.Common.{◌∙◌, ap}
use Rattle.dg_records.specs.Shelf.{kept}
use Rattle.dg_records.proofs.ShelfLemmas.{lookup-kept}
use Rattle.dg_records.proofs.shelf.Shelf.get.Goals as goal

pub returns : goal.returns
returns c =
    c.get.ensures.value ∙ lookup-kept c.self.inside.records.entries c.args.test.now c.self.invariant ∙ ap (λ s. kept s c.args.test.now) c.self.view_is
