-- The trees of expressions.
use Rattle.std.specs.Prelude.{ℕ, ◌+◌, max, List}
use Rattle.dg_words.specs.Piece.{Piece}
use Rattle.dg_expr.specs.declared.operator.Infix.{Infix}
use Rattle.dg_expr.specs.declared.operator.Prefix.{Prefix}

-- An operand of these pieces, an operator before a tree, an operator between two, or a condition with the tree where it
-- holds and the one where it doesn't.
pub data Tree : Type 0 where
  Operand : List Piece → Tree
  One : Prefix → Tree → Tree
  Two : Infix → Tree → Tree → Tree
  Choice : Tree → Tree → Tree → Tree

-- the levels of a tree
abbrev pub height : Tree → ℕ
height (Operand pieces) = 1
height (One op a) = height a + 1
height (Two op a b) = max (height a) (height b) + 1
height (Choice c a b) = max (height c) (max (height a) (height b)) + 1
