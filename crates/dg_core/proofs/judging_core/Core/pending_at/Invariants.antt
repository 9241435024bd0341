use Rattle.std.proofs.Common.{◌≡◌, ◌++◌}
use Rattle.std.specs.Prelude.{not}
use Rattle.dg_index.specs.Kept.{is_held}
use Rattle.dg_core.proofs.OpeningLemmas.{picked}
use Rattle.dg_core.proofs.judging_core.Core.pending_at.Given as goal

abbrev pub invariant-loop-at : goal.invariant-loop-at
invariant-loop-at l =
    l.pending ++ picked (λ t. not (is_held l.self.world l.self.shelf t)) l.tests l.at-iterator
    ≡ picked (λ t. not (is_held l.self.world l.self.shelf t)) l.tests l.openings.opened.keys
