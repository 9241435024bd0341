use Rattle.std.proofs.Common.{◌≡◌, take}
use Rattle.std.specs.Prelude.{not}
use Rattle.std.specs.List.{filter}
use Rattle.dg_index.specs.Kept.{is_held}
use Rattle.dg_core.proofs.judging_core.Core.pending_of_all.Given as goal

abbrev pub invariant-loop-at : goal.invariant-loop-at
invariant-loop-at l = l.pending ≡ filter (λ t. not (is_held l.self.world l.self.shelf t)) (take l.at l.tests)
