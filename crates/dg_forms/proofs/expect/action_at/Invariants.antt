use Rattle.std.proofs.Common.{◌≡◌, length}
use Rattle.dg_language.specs.Expecting.{action_at}
use Rattle.dg_forms.proofs.expect.action_at.Given as goal

abbrev pub invariant-pairs : goal.invariant-pairs
invariant-pairs l = action_at l.before l.left ≡ action_at l.fn.index l.fn.pairs

abbrev pub decreases-pairs : goal.decreases-pairs
decreases-pairs l = length l.left
