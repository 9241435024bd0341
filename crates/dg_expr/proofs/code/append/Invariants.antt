use Rattle.std.proofs.Common.{◌≡◌, ◌++◌}
use Rattle.dg_expr.proofs.code.append.Given as goal

abbrev pub invariant-loop-instruction : goal.invariant-loop-instruction
invariant-loop-instruction l = l.code ≡ l.fn.code ++ l.yielded
