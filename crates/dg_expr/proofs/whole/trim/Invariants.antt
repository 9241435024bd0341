use Rattle.std.proofs.Common.{◌≡◌, length}
use Rattle.std.specs.Prelude.{reverse}
use Rattle.dg_expr.specs.Number.{drop_spaces, trimmed}
use Rattle.dg_expr.proofs.whole.trim.Given as goal

abbrev pub invariant-loop-rest : goal.invariant-loop-rest
invariant-loop-rest l = reverse (drop_spaces (reverse l.rest)) ≡ trimmed l.fn.text

abbrev pub decreases-loop-rest : goal.decreases-loop-rest
decreases-loop-rest l = length l.rest
