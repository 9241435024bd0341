use Rattle.std.proofs.Common.{◌∙◌, ap, sym}
use Rattle.std.specs.Prelude.{slice_get}
use Rattle.dg_index.specs.Kept.{holds_if_kept}
use Rattle.dg_core.proofs.PlaceLemmas.{held-at-place, unheld-nowhere}
use Rattle.dg_core.proofs.judging_core.Core.is_held.Goals as goal

pub returns-in-Some : goal.returns-in-Some
returns-in-Some c =
    c.is_held_at.ensures ∙ ap (λ x. holds_if_kept x.world (slice_get x.shelf c.in-Some.place)) c.self.view_is
    ∙ held-at-place c.args.self.now.world c.args.self.now.shelf c.args.test.now c.in-Some.place (sym c.in-Some.ensures)

pub returns-in-None : goal.returns-in-None
returns-in-None c = unheld-nowhere c.args.self.now.world c.args.self.now.shelf c.args.test.now (sym c.in-None.ensures)
