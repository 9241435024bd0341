use Rattle.std.proofs.Common.{◌≡◌, length, map}
use Rattle.dg_world.specs.Selection.{are_distinct}
use Rattle.dg_world.proofs.setting.have_distinct_names.Given as goal

abbrev pub invariant-loop-first : goal.invariant-loop-first
invariant-loop-first l = are_distinct (map (λ s. s.name) l.rest) ≡ are_distinct (map (λ s. s.name) l.fn.settings)

abbrev pub decreases-loop-first : goal.decreases-loop-first
decreases-loop-first l = length l.rest
