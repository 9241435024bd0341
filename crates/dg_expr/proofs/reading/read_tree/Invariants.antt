use Rattle.std.proofs.Common.{◌≡◌, length}
use Rattle.dg_expr.specs.Reading.{read_behind, tree_in}
use Rattle.dg_expr.specs.Token.{tokens_of}
use Rattle.dg_expr.proofs.reading.read_tree.Given as goal

abbrev pub invariant-loop-rest : goal.invariant-loop-rest
invariant-loop-rest l = read_behind (tokens_of l.rest) l.frames l.tree ≡ tree_in l.fn.text

abbrev pub decreases-loop-rest : goal.decreases-loop-rest
decreases-loop-rest l = length l.rest
