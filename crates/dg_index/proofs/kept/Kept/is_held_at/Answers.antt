use Rattle.std.proofs.Common.{◌∙◌, ap, sym}
use Rattle.std.specs.Prelude.{slice_get}
use Rattle.dg_index.specs.Kept.{holds_if_kept}
use Rattle.dg_index.proofs.KeptLemmas.{held-at, none-at}
use Rattle.dg_index.proofs.kept.Kept.is_held_at.Goals as goal

pub returns-in-Some : goal.returns-in-Some
returns-in-Some c =
    let k = c.self.inside in
    c.is_clear.ensures
    ∙ held-at k.world k.records.entries k.index c.args.place (c.in-Some.field-0-0.now, c.in-Some.marked.now) c.self.invariant.0 (sym c.in-Some.ensures.entry)
    ∙ ap (λ x. holds_if_kept x.world (slice_get x.shelf c.args.place)) c.self.view_is

pub returns-in-None : goal.returns-in-None
returns-in-None c =
    let k = c.self.inside in
    none-at k.world k.records.entries c.args.place (sym c.in-None.ensures.entry) ∙ ap (λ x. holds_if_kept x.world (slice_get x.shelf c.args.place)) c.self.view_is
