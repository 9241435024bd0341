use Rattle.std.proofs.Common.{◌≡◌, length}
use Rattle.dg_expr.specs.Number.{digits_behind, digits_in}
use Rattle.dg_expr.proofs.whole.digits.Given as goal

abbrev pub invariant-loop-rest : goal.invariant-loop-rest
invariant-loop-rest l = digits_behind l.fn.base l.value l.rest ≡ digits_in l.fn.base l.fn.text

abbrev pub decreases-loop-rest : goal.decreases-loop-rest
decreases-loop-rest l = length l.rest
