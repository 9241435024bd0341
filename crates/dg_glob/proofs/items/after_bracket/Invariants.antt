use Rattle.std.proofs.Common.{◌≡◌, length}
use Rattle.dg_glob.specs.Items.{after_first, items}
use Rattle.dg_glob.proofs.items.after_bracket.Given as goal

abbrev pub invariant-loop-item : goal.invariant-loop-item
invariant-loop-item l = after_first (items l.rest) l.byte ≡ after_first (items l.pattern) l.byte

abbrev pub decreases-loop-item : goal.decreases-loop-item
decreases-loop-item l = length l.rest
