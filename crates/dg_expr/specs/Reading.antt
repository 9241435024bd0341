-- The reading of tokens.
use Rattle.std.specs.Prelude.{ℕ, List, [], ◌∷◌, Bool, true, false, Option, None, Some, if◌then◌else◌, ◌==◌, nat_le}
use Rattle.dg_expr.specs.declared.frame.Frame.{Frame}
use Rattle.dg_expr.specs.declared.frame.Frame.TheVariants as frame
use Rattle.dg_expr.specs.declared.operator.Infix.TheVariants as between
use Rattle.dg_expr.specs.declared.operator.Prefix.TheVariants as before
use Rattle.dg_expr.specs.declared.token.Token.{Token}
use Rattle.dg_expr.specs.declared.token.Token.TheVariants as token
use Rattle.dg_expr.specs.Grammar.{level_of}
use Rattle.dg_expr.specs.Token.{tokens_of}
use Rattle.dg_expr.specs.Tree.{Tree, Operand, One, Two, Choice, height}

-- a tree of at most 200 levels
abbrev pub is_low : Tree → Bool
is_low t = nat_le (height t) 200

-- whether what is open takes a tree that an operator of this level follows; 0 is for what is no operator
abbrev pub takes : ℕ → Frame → Bool
takes k (frame.Prefix op) = true
takes k (frame.Infix op a) = nat_le k (level_of op)
takes k frame.Paren = false
takes k (frame.Condition c) = false
takes k (frame.Branch c a) = k == 0

-- the tree that it then makes
abbrev pub joined : Frame → Tree → Tree
joined (frame.Prefix op) t = One op t
joined (frame.Infix op a) t = Two op a t
joined frame.Paren t = t
joined (frame.Condition c) t = t
joined (frame.Branch c a) t = Choice c a t

-- What is still open, innermost first, and the tree behind it, once all that takes the tree has done so; none where that is too high.
unfoldable pub reduce : ℕ → List Frame → Tree → Option (List Frame × Tree)
reduce k [] t = Some ([], t)
reduce k (f ∷ fs) t = if takes k f then (if is_low (joined f t) then reduce k fs (joined f t) else None) else Some (f ∷ fs, t)

-- the open items, and the tree after them where an operator may come
abbrev pub Place : Type 0
Place = List Frame × Option Tree

abbrev pub opened : (Tree → Frame) → Option (List Frame × Tree) → Option Place
opened f None = None
opened f (Some (fs, t)) = Some (f t ∷ fs, None)

-- the innermost parentheses end
abbrev pub paren_closed : List Frame → Option (List Frame × Unit {0})
paren_closed (frame.Paren ∷ fs) = Some (fs, tt)
paren_closed fs = None

-- the condition that waits for its first branch
abbrev pub condition_taken : List Frame → Option (List Frame × Tree)
condition_taken (frame.Condition c ∷ fs) = Some (fs, c)
condition_taken fs = None

abbrev pub behind_paren : Option (List Frame × Unit {0}) → Tree → Option Place
behind_paren None t = None
behind_paren (Some (fs, u)) t = Some (fs, Some t)

abbrev pub with_branch : Option (List Frame × Tree) → Tree → Option Place
with_branch None t = None
with_branch (Some (fs, c)) t = Some (frame.Branch c t ∷ fs, None)

abbrev pub parens_end : Option (List Frame × Tree) → Option Place
parens_end None = None
parens_end (Some (fs, t)) = behind_paren (paren_closed fs) t

abbrev pub branch_ends : Option (List Frame × Tree) → Option Place
branch_ends None = None
branch_ends (Some (fs, t)) = with_branch (condition_taken fs) t

-- a token where an operand must come
abbrev pub at_operand : List Frame → Token → Option Place
at_operand fs (token.Operand pieces) = Some (fs, Some (Operand pieces))
at_operand fs token.LeftParen = Some (frame.Paren ∷ fs, None)
at_operand fs (token.Prefix op) = Some (frame.Prefix op ∷ fs, None)
at_operand fs token.Plus = Some (frame.Prefix before.Keep ∷ fs, None)
at_operand fs token.Minus = Some (frame.Prefix before.Negate ∷ fs, None)
at_operand fs t = None

-- a token where an operator may come
abbrev pub at_operator : List Frame → Tree → Token → Option Place
at_operator fs a (token.Infix op) = opened (frame.Infix op) (reduce (level_of op) fs a)
at_operator fs a token.Plus = opened (frame.Infix between.Plus) (reduce 11 fs a)
at_operator fs a token.Minus = opened (frame.Infix between.Minus) (reduce 11 fs a)
at_operator fs a token.Question = opened frame.Condition (reduce 1 fs a)
at_operator fs a token.Colon = branch_ends (reduce 0 fs a)
at_operator fs a token.RightParen = parens_end (reduce 0 fs a)
at_operator fs a t = None

unfoldable pub step : List Frame → Option Tree → Token → Option Place
step fs None t = at_operand fs t
step fs (Some a) t = at_operator fs a t

-- a gap changes nothing
abbrev pub pass : List Frame → Option Tree → Option Token → Option Place
pass fs a None = Some (fs, a)
pass fs a (Some t) = step fs a t

-- the tree where nothing is open
abbrev pub whole : Option (List Frame × Tree) → Option Tree
whole (Some ([], t)) = Some t
whole p = None

unfoldable pub finish : List Frame → Option Tree → Option Tree
finish fs None = None
finish fs (Some a) = whole (reduce 0 fs a)

abbrev pub onward : Option Place → (List Frame → Option Tree → Option Tree) → Option Tree
onward None rest = None
onward (Some (fs, a)) rest = rest fs a

unfoldable pub read : List Token → List Frame → Option Tree → Option Tree
read [] fs a = finish fs a
read (t ∷ ts) fs a = onward (step fs a t) (λ gs b. read ts gs b)

abbrev pub read_behind : Option (List Token) → List Frame → Option Tree → Option Tree
read_behind None fs a = None
read_behind (Some ts) fs a = read ts fs a

-- The tree of at most 200 levels that a text spells, if there is one.
unfoldable pub tree_in : List ℕ → Option Tree
tree_in text = read_behind (tokens_of text) [] None
