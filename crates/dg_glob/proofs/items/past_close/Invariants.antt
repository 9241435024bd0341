use Rattle.std.proofs.Common.{◌≡◌, length}
use Rattle.dg_glob.specs.Items.{past_close}
use Rattle.dg_glob.proofs.items.past_close.Given as goal

abbrev pub invariant-loop-byte : goal.invariant-loop-byte
invariant-loop-byte l = past_close l.rest ≡ past_close l.pattern

abbrev pub decreases-loop-byte : goal.decreases-loop-byte
decreases-loop-byte l = length l.rest
