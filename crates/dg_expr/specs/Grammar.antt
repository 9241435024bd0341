-- The grammar of expressions.
use Rattle.std.specs.Prelude.{◌≡◌, ℕ, suc, ◌≤◌, List, [], ◌∷◌, ◌++◌, Option, None, Some}
use Rattle.dg_words.specs.Piece.{Piece}
use Rattle.dg_expr.specs.declared.operator.Infix.{Infix}
use Rattle.dg_expr.specs.declared.operator.Infix.TheVariants as between
use Rattle.dg_expr.specs.declared.operator.Prefix.{Prefix}
use Rattle.dg_expr.specs.declared.operator.Prefix.TheVariants as before
use Rattle.dg_expr.specs.declared.token.Token.{Token}
use Rattle.dg_expr.specs.declared.token.Token.TheVariants as token
use Rattle.dg_expr.specs.Token.{tokens_of}
use Rattle.dg_expr.specs.Tree.{Tree, Operand, One, Two, Choice, height}

-- How tightly an operator binds: 1 is the loosest.
abbrev pub level_of : Infix → ℕ
level_of between.Times = 12
level_of between.Over = 12
level_of between.Remainder = 12
level_of between.Plus = 11
level_of between.Minus = 11
level_of between.ShiftLeft = 10
level_of between.ShiftRight = 10
level_of between.Less = 9
level_of between.Greater = 9
level_of between.LessOrEqual = 9
level_of between.GreaterOrEqual = 9
level_of between.Equal = 8
level_of between.NotEqual = 8
level_of between.SameText = 7
level_of between.OtherText = 7
level_of between.In = 6
level_of between.NotIn = 6
level_of between.BitAnd = 5
level_of between.BitXor = 4
level_of between.BitOr = 3
level_of between.And = 2
level_of between.Or = 1

-- the operator that a token is between two trees, and before one
abbrev pub infix_of : Token → Option Infix
infix_of (token.Infix op) = Some op
infix_of token.Plus = Some between.Plus
infix_of token.Minus = Some between.Minus
infix_of t = None

abbrev pub prefix_of : Token → Option Prefix
prefix_of (token.Prefix op) = Some op
prefix_of token.Plus = Some before.Keep
prefix_of token.Minus = Some before.Negate
prefix_of t = None

-- These tokens are a phrase of a level, and spell this tree: a condition is of level 0, what an operator joins of its own,
-- and an operand, parentheses and what begins with an operator of level 13. Operators group to the left, conditions to the right.
pub data Phrase : ℕ → List Token → Tree → Type 0 where
  operand : (pieces : List Piece) → Phrase 13 (token.Operand pieces ∷ []) (Operand pieces)
  parens : (ts : List Token) (a : Tree) → Phrase 0 ts a → Phrase 13 (token.LeftParen ∷ (ts ++ token.RightParen ∷ [])) a
  one : (t : Token) (op : Prefix) (ts : List Token) (a : Tree) → prefix_of t ≡ Some op → Phrase 13 ts a → Phrase 13 (t ∷ ts) (One op a)
  two : (ls : List Token) (t : Token) (op : Infix) (rs : List Token) (a b : Tree) → infix_of t ≡ Some op
      → Phrase (level_of op) ls a → Phrase (suc (level_of op)) rs b → Phrase (level_of op) (ls ++ t ∷ rs) (Two op a b)
  choice : (cs ls rs : List Token) (c a b : Tree) → Phrase 1 cs c → Phrase 0 ls a → Phrase 0 rs b
      → Phrase 0 (cs ++ token.Question ∷ (ls ++ token.Colon ∷ rs)) (Choice c a b)
  tighter : (n : ℕ) (ts : List Token) (a : Tree) → Phrase (suc n) ts a → Phrase n ts a

-- A text spells a tree.
pub record Spells (text : List ℕ) (tree : Tree) : Type 0 where
  pub tokens : List Token
  pub are_tokens : tokens_of text ≡ Some tokens
  pub phrase : Phrase 0 tokens tree

-- A text spells no tree of at most 200 levels.
abbrev pub SpellsNone : List ℕ → Type 0
SpellsNone text = (tree : Tree) → Spells text tree → height tree ≤ 200 → ⊥
