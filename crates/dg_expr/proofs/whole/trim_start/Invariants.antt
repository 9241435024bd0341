use Rattle.std.proofs.Common.{◌≡◌, length}
use Rattle.dg_expr.specs.Number.{drop_spaces}
use Rattle.dg_expr.proofs.whole.trim_start.Given as goal

abbrev pub invariant-loop-rest : goal.invariant-loop-rest
invariant-loop-rest l = drop_spaces l.rest ≡ drop_spaces l.fn.text

abbrev pub decreases-loop-rest : goal.decreases-loop-rest
decreases-loop-rest l = length l.rest
