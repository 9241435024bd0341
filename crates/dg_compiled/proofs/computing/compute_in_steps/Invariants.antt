use Rattle.std.proofs.Common.{◌≡◌, ◌≤◌, length}
use Rattle.dg_language.specs.Evaluation.{Then}
use Rattle.dg_compiled.specs.Calculating.{calculating}
use Rattle.dg_compiled.proofs.computing.compute_in_steps.Given as goal

abbrev pub invariant-instructions : goal.invariant-instructions
invariant-instructions l =
    ((k : Then) → calculating l.calculation l.fn.state k ≡ calculating l.fn.calculation l.fn.state k)
    × (length l.calculation.left ≤ length l.fn.calculation.left)

abbrev pub decreases-instructions : goal.decreases-instructions
decreases-instructions l = length l.calculation.left
