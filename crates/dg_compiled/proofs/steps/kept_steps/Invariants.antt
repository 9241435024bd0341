use Rattle.std.proofs.Common.{◌≡◌, ◌++◌, length}
use Rattle.dg_compiled.proofs.steps.kept_steps.Given as goal

abbrev pub invariant-steps : goal.invariant-steps
invariant-steps l = l.all ++ l.steps ≡ l.fn.steps

abbrev pub decreases-steps : goal.decreases-steps
decreases-steps l = length l.steps
