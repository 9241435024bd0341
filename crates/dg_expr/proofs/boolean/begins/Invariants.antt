use Rattle.std.proofs.Common.{◌≡◌, length}
use Rattle.dg_expr.specs.Truth.{begins}
use Rattle.dg_expr.proofs.boolean.begins.Given as goal

abbrev pub invariant-loop-text : goal.invariant-loop-text
invariant-loop-text l = begins l.word l.text ≡ begins l.fn.word l.fn.text

abbrev pub decreases-loop-text : goal.decreases-loop-text
decreases-loop-text l = length l.text
