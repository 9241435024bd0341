-- The tree of a node, whose children are seen as their trees.
use Rattle.dg_expr.specs.Tree.{Tree, Operand, One, Two, Choice}
use Rattle.dg_expr.specs.declared.tree.Node.{Node}
use Rattle.dg_expr.specs.declared.tree.Node.TheVariants as node

abbrev pub tree_of : Node → Tree
tree_of (node.Operand parts) = Operand parts
tree_of (node.One op a) = One op a
tree_of (node.Two op a b) = Two op a b
tree_of (node.Choice c a b) = Choice c a b
