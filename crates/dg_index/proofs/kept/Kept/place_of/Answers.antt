use Rattle.std.proofs.Common.{◌∙◌, ap}
use Rattle.dg_index.specs.Kept.{place_of}
use Rattle.dg_index.proofs.KeptLemmas.{place-keyed}
use Rattle.dg_index.proofs.kept.Kept.place_of.Goals as goal

pub returns : goal.returns
returns c =
    c.get_index_of.ensures.index ∙ place-keyed c.self.inside.records.entries c.args.test.now c.self.invariant.0.keyed
    ∙ ap (λ k. place_of k.shelf c.args.test.now) c.self.view_is
