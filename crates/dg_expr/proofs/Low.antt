-- What is read has at most 200 levels.
use Rattle.std.proofs.Common.{◌≡◌, ℕ, ◌≤◌, List, [], ◌∷◌, Bool, true, false, Option, None, Some, refl, subst}
use Rattle.std.proofs.lemmas.Bool.{leb-true}
use Rattle.std.specs.Prelude.{if◌then◌else◌}
use Rattle.dg_expr.specs.declared.frame.Frame.{Frame}
use Rattle.dg_expr.specs.declared.frame.Frame.TheVariants as frame
use Rattle.dg_expr.specs.declared.token.Token.{Token}
use Rattle.dg_expr.specs.declared.token.Token.TheVariants as token
use Rattle.dg_expr.specs.Grammar.{level_of}
use Rattle.dg_expr.specs.Reading.{Place, branch_ends, finish, is_low, joined, onward, opened, parens_end, read, reduce, step, takes, whole}
use Rattle.dg_expr.specs.Tree.{Tree, height}

-- the tree, if there is one, is low
abbrev LowTree : Option Tree → Type 0
LowTree None = Unit {0}
LowTree (Some a) = is_low a ≡ true

abbrev LowPlace : Option Place → Type 0
LowPlace None = Unit {0}
LowPlace (Some (fs, a)) = LowTree a

abbrev LowPair : Option (List Frame × Tree) → Type 0
LowPair None = Unit {0}
LowPair (Some (fs, a)) = is_low a ≡ true

low_if : (t : Bool) (r : Option (List Frame × Tree)) → (t ≡ true → LowPair r) → LowPair (if t then r else None)
low_if true r h = h refl
low_if false r h = tt

low_reduce : (k : ℕ) (fs : List Frame) (a : Tree) → is_low a ≡ true → LowPair (reduce k fs a)
unfolding reduce
low_reduce k [] a h = h
low_reduce k (f ∷ fs) a h =
    elim (takes k f) as (λ t. LowPair (if t then (if is_low (joined f a) then reduce k fs (joined f a) else None) else Some (f ∷ fs, a))) [
      | true ↦ low_if (is_low (joined f a)) (reduce k fs (joined f a)) (λ l. low_reduce k fs (joined f a) l)
      | false ↦ h
    ]

low_opened : (f : Tree → Frame) (r : Option (List Frame × Tree)) → LowPlace (opened f r)
low_opened f None = tt
low_opened f (Some (fs, a)) = tt

low_parens : (r : Option (List Frame × Tree)) → LowPair r → LowPlace (parens_end r)
low_parens None h = tt
low_parens (Some ([], a)) h = tt
low_parens (Some (frame.Paren ∷ fs, a)) h = h
low_parens (Some (frame.Prefix op ∷ fs, a)) h = tt
low_parens (Some (frame.Infix op b ∷ fs, a)) h = tt
low_parens (Some (frame.Condition c ∷ fs, a)) h = tt
low_parens (Some (frame.Branch c b ∷ fs, a)) h = tt

low_branch : (r : Option (List Frame × Tree)) → LowPlace (branch_ends r)
low_branch None = tt
low_branch (Some ([], a)) = tt
low_branch (Some (frame.Paren ∷ fs, a)) = tt
low_branch (Some (frame.Prefix op ∷ fs, a)) = tt
low_branch (Some (frame.Infix op b ∷ fs, a)) = tt
low_branch (Some (frame.Condition c ∷ fs, a)) = tt
low_branch (Some (frame.Branch c b ∷ fs, a)) = tt

low_step : (fs : List Frame) (a : Option Tree) (t : Token) → LowTree a → LowPlace (step fs a t)
unfolding step
low_step fs None (token.Operand pieces) h = refl
low_step fs None (token.Infix op) h = tt
low_step fs None (token.Prefix op) h = tt
low_step fs None token.Plus h = tt
low_step fs None token.Minus h = tt
low_step fs None token.LeftParen h = tt
low_step fs None token.RightParen h = tt
low_step fs None token.Question h = tt
low_step fs None token.Colon h = tt
low_step fs (Some a) (token.Operand pieces) h = tt
low_step fs (Some a) (token.Infix op) h = low_opened (frame.Infix op) (reduce (level_of op) fs a)
low_step fs (Some a) (token.Prefix op) h = tt
low_step fs (Some a) token.Plus h = low_opened _ (reduce 11 fs a)
low_step fs (Some a) token.Minus h = low_opened _ (reduce 11 fs a)
low_step fs (Some a) token.LeftParen h = tt
low_step fs (Some a) token.RightParen h = low_parens (reduce 0 fs a) (low_reduce 0 fs a h)
low_step fs (Some a) token.Question h = low_opened frame.Condition (reduce 1 fs a)
low_step fs (Some a) token.Colon h = low_branch (reduce 0 fs a)

low_whole : (r : Option (List Frame × Tree)) → LowPair r → LowTree (whole r)
low_whole None h = tt
low_whole (Some ([], a)) h = h
low_whole (Some (f ∷ fs, a)) h = tt

low_finish : (fs : List Frame) (a : Option Tree) → LowTree a → LowTree (finish fs a)
unfolding finish
low_finish fs None h = tt
low_finish fs (Some a) h = low_whole (reduce 0 fs a) (low_reduce 0 fs a h)

low_onward : (p : Option Place) (more : List Frame → Option Tree → Option Tree) → ((fs : List Frame) (a : Option Tree) → LowTree a → LowTree (more fs a))
    → LowPlace p → LowTree (onward p more)
low_onward None more f h = tt
low_onward (Some (fs, a)) more f h = f fs a h

low_read : (ts : List Token) (fs : List Frame) (a : Option Tree) → LowTree a → LowTree (read ts fs a)
unfolding read
low_read [] fs a h = low_finish fs a h
low_read (t ∷ ts) fs a h = low_onward (step fs a t) (λ gs b. read ts gs b) (λ gs b l. low_read ts gs b l) (low_step fs a t h)

pub few_levels : (ts : List Token) (b : Tree) → read ts [] None ≡ Some b → height b ≤ 200
few_levels ts b e = let P : Option Tree → Type 0 = LowTree in leb-true (height b) 200 (subst P e (low_read ts [] None tt))
