-- The children of a node have fewer levels than its tree.
use Rattle.std.specs.Prelude.{◌≤◌, max}
use Rattle.std.proofs.Common.{arith}
use Rattle.dg_expr.specs.declared.tree.Node.{Node}
use Rattle.dg_expr.specs.declared.tree.Node.TheVariants as node
use Rattle.dg_expr.specs.declared.tree.Tree.TheDeep.{deep-Node}
use Rattle.dg_expr.specs.Shape.{tree_of}
use Rattle.dg_expr.specs.Tree.{height}

pub deep_le-height : (n : Node) → max (deep-Node n) 0 ≤ height (tree_of n)
deep_le-height (node.Operand parts) = omega arith
deep_le-height (node.One op a) = omega arith
deep_le-height (node.Two op a b) = omega arith
deep_le-height (node.Choice c a b) = omega arith
