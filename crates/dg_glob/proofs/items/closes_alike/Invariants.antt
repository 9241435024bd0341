use Rattle.std.proofs.Common.{◌≡◌, length}
use Rattle.dg_glob.specs.Items.{closes_alike, items}
use Rattle.dg_glob.proofs.items.closes_alike.Given as goal

abbrev pub invariant-loop-item : goal.invariant-loop-item
invariant-loop-item l = closes_alike (items l.rest) ≡ closes_alike (items l.pattern)

abbrev pub decreases-loop-item : goal.decreases-loop-item
decreases-loop-item l = length l.rest
