use Rattle.std.proofs.Common.{◌≡◌, length}
use Rattle.dg_language.specs.Switching.{pairs_fault}
use Rattle.dg_forms.proofs.switch.pairs_fault.Given as goal

abbrev pub invariant-pairs : goal.invariant-pairs
invariant-pairs l = pairs_fault l.left ≡ pairs_fault l.fn.pairs

abbrev pub decreases-pairs : goal.decreases-pairs
decreases-pairs l = length l.left
