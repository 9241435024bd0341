-- The value of a tree is the one that its operator has of the operands that it needs.
use Rattle.std.proofs.Common.{◌≡◌, ℕ, List, [], Bool, true, false, Option, None, Some, Ok, Err, refl, ap, subst, ◌∙◌}
use Rattle.std.specs.Prelude.{if◌then◌else◌}
use Rattle.dg_words.specs.Piece.{Piece}
use Rattle.dg_expr.specs.declared.code.Joins.TheVariants as joins
use Rattle.dg_expr.specs.declared.fault.ExprFault.TheVariants.{NotTruth}
use Rattle.dg_expr.specs.declared.operator.Infix.{Infix}
use Rattle.dg_expr.specs.declared.operator.Infix.TheVariants as between
use Rattle.dg_expr.specs.declared.operator.Prefix.{Prefix}
use Rattle.dg_expr.specs.Code.{Host, joining, judge, settle, truth_behind, value, value_behind}
use Rattle.dg_expr.specs.Operator.{Value, and_then, or_else, value_of, value_of_one}
use Rattle.dg_expr.specs.ShortCircuit.{Comes, DoesAs, Ends, Settles, needs_right, told_first, told_second}
use Rattle.dg_expr.specs.Tree.{Tree, Operand, One, Two, Choice}
use Rattle.dg_expr.specs.Truth.{truth_of, truth_text}

-- the two that need not have their right operand, and the others
data Kind : Infix → Type 0 where
  both : Kind between.And
  either : Kind between.Or
  plain : (op : Infix) → joining op ≡ joins.Always → ((o : Option Bool) → needs_right op o ≡ true)
      → ((x y : List ℕ) → told_first op x y ≡ x) → ((x y : List ℕ) → told_second op x y ≡ y) → Kind op

kind : (op : Infix) → Kind op
kind between.Times = plain between.Times refl (λ o. refl) (λ x y. refl) (λ x y. refl)
kind between.Over = plain between.Over refl (λ o. refl) (λ x y. refl) (λ x y. refl)
kind between.Remainder = plain between.Remainder refl (λ o. refl) (λ x y. refl) (λ x y. refl)
kind between.Plus = plain between.Plus refl (λ o. refl) (λ x y. refl) (λ x y. refl)
kind between.Minus = plain between.Minus refl (λ o. refl) (λ x y. refl) (λ x y. refl)
kind between.ShiftLeft = plain between.ShiftLeft refl (λ o. refl) (λ x y. refl) (λ x y. refl)
kind between.ShiftRight = plain between.ShiftRight refl (λ o. refl) (λ x y. refl) (λ x y. refl)
kind between.Less = plain between.Less refl (λ o. refl) (λ x y. refl) (λ x y. refl)
kind between.Greater = plain between.Greater refl (λ o. refl) (λ x y. refl) (λ x y. refl)
kind between.LessOrEqual = plain between.LessOrEqual refl (λ o. refl) (λ x y. refl) (λ x y. refl)
kind between.GreaterOrEqual = plain between.GreaterOrEqual refl (λ o. refl) (λ x y. refl) (λ x y. refl)
kind between.Equal = plain between.Equal refl (λ o. refl) (λ x y. refl) (λ x y. refl)
kind between.NotEqual = plain between.NotEqual refl (λ o. refl) (λ x y. refl) (λ x y. refl)
kind between.SameText = plain between.SameText refl (λ o. refl) (λ x y. refl) (λ x y. refl)
kind between.OtherText = plain between.OtherText refl (λ o. refl) (λ x y. refl) (λ x y. refl)
kind between.In = plain between.In refl (λ o. refl) (λ x y. refl) (λ x y. refl)
kind between.NotIn = plain between.NotIn refl (λ o. refl) (λ x y. refl) (λ x y. refl)
kind between.BitAnd = plain between.BitAnd refl (λ o. refl) (λ x y. refl) (λ x y. refl)
kind between.BitXor = plain between.BitXor refl (λ o. refl) (λ x y. refl) (λ x y. refl)
kind between.BitOr = plain between.BitOr refl (λ o. refl) (λ x y. refl) (λ x y. refl)
kind between.And = both
kind between.Or = either

module _ {S R Q : Type 0} (host : Host S R) (see : R → Q) where
  -- what evaluates a right operand
  abbrev Right : Type 0
  Right = S → (List ℕ → S → R) → R

  settles : (w : Value) (a : Tree) (s t : S) (p q : List ℕ)
      → ((k : List ℕ → S → R) → see (value host a s k) ≡ see (settle host w p q t k)) → Settles host see a s w p q t
  settles (Ok v) a s t p q h = h
  settles (Err f) a s t p q h = h

  -- the right operand isn't needed
  and_alone : (left any : Option Bool) (x : List ℕ) (right : Right) (t : S) (k : List ℕ → S → R) → needs_right between.And left ≡ false
      → judge host left x t (λ b. if b then truth_behind host right t k else k (truth_text false) t) ≡ settle host (and_then left any) x [] t k
  and_alone None any x right t k e = refl
  and_alone (Some true) any x right t k e = absurd (cc)
  and_alone (Some false) any x right t k e = refl

  or_alone : (left any : Option Bool) (x : List ℕ) (right : Right) (t : S) (k : List ℕ → S → R) → needs_right between.Or left ≡ false
      → judge host left x t (λ b. if b then k (truth_text true) t else truth_behind host right t k) ≡ settle host (or_else left any) x [] t k
  or_alone None any x right t k e = refl
  or_alone (Some true) any x right t k e = refl
  or_alone (Some false) any x right t k e = absurd (cc)

  alone_behind : (op : Infix) → Kind op → (x any : List ℕ) (right : Right) (t : S) (k : List ℕ → S → R) → needs_right op (truth_of x) ≡ false
      → value_behind host (joining op) op x right t k ≡ settle host (value_of op x any) x [] t k
  unfolding value_of
  alone_behind _ both x any right t k e = and_alone (truth_of x) (truth_of any) x right t k e
  alone_behind _ either x any right t k e = or_alone (truth_of x) (truth_of any) x right t k e
  alone_behind _ (plain op j n p q) x any right t k e = let h = n (truth_of x) in absurd (cc)

  -- the right operand is needed, and comes to a text
  abbrev RightComes : Right → S → List ℕ → S → Type 0
  RightComes right t y u = (k : List ℕ → S → R) → see (right t k) ≡ see (k y u)

  truth_settles : (o : Option Bool) (y : List ℕ) (u : S) (k : List ℕ → S → R) (w : Value) → w ≡ and_then (Some true) o
      → see (judge host o y u (λ b. k (truth_text b) u)) ≡ see (settle host w y [] u k)
  truth_settles None y u k w e = rw e refl
  truth_settles (Some true) y u k w e = rw e refl
  truth_settles (Some false) y u k w e = rw e refl

  and_taken : (left : Option Bool) (x y : List ℕ) (right : Right) (t u : S) (k : List ℕ → S → R) → needs_right between.And left ≡ true
      → RightComes right t y u
      → see (judge host left x t (λ b. if b then truth_behind host right t k else k (truth_text false) t)) ≡ see (settle host (and_then left (truth_of y)) y [] u k)
  and_taken None x y right t u k e h = absurd (cc)
  and_taken (Some false) x y right t u k e h = absurd (cc)
  and_taken (Some true) x y right t u k e h =
      h (λ z s'. judge host (truth_of z) z s' (λ b. k (truth_text b) s')) ∙ truth_settles (truth_of y) y u k (and_then (Some true) (truth_of y)) refl

  or_taken : (left : Option Bool) (x y : List ℕ) (right : Right) (t u : S) (k : List ℕ → S → R) → needs_right between.Or left ≡ true
      → RightComes right t y u
      → see (judge host left x t (λ b. if b then k (truth_text true) t else truth_behind host right t k)) ≡ see (settle host (or_else left (truth_of y)) y [] u k)
  or_taken None x y right t u k e h = absurd (cc)
  or_taken (Some true) x y right t u k e h = absurd (cc)
  or_taken (Some false) x y right t u k e h =
      h (λ z s'. judge host (truth_of z) z s' (λ b. k (truth_text b) s')) ∙ truth_settles (truth_of y) y u k (or_else (Some false) (truth_of y)) refl

  taken_behind : (op : Infix) → Kind op → (x y : List ℕ) (right : Right) (t u : S) (k : List ℕ → S → R) → needs_right op (truth_of x) ≡ true
      → RightComes right t y u
      → see (value_behind host (joining op) op x right t k) ≡ see (settle host (value_of op x y) (told_first op x y) (told_second op x y) u k)
  unfolding value_of
  taken_behind _ both x y right t u k e h = and_taken (truth_of x) x y right t u k e h
  taken_behind _ either x y right t u k e h = or_taken (truth_of x) x y right t u k e h
  taken_behind _ (plain op j n p q) x y right t u k e h =
      rw (j, p x y, q x y) (h (λ z s'. settle host (value_of op x z) x z s' k))

  -- the right operand is needed, and ends
  abbrev RightEnded : Right → S → R → Type 0
  RightEnded right t end = (k : List ℕ → S → R) → see (right t k) ≡ see end

  and_ends : (left : Option Bool) (x : List ℕ) (right : Right) (t : S) (end : R) (k : List ℕ → S → R) → needs_right between.And left ≡ true
      → RightEnded right t end
      → see (judge host left x t (λ b. if b then truth_behind host right t k else k (truth_text false) t)) ≡ see end
  and_ends None x right t end k e h = absurd (cc)
  and_ends (Some false) x right t end k e h = absurd (cc)
  and_ends (Some true) x right t end k e h = h (λ z s'. judge host (truth_of z) z s' (λ b. k (truth_text b) s'))

  or_ends : (left : Option Bool) (x : List ℕ) (right : Right) (t : S) (end : R) (k : List ℕ → S → R) → needs_right between.Or left ≡ true
      → RightEnded right t end
      → see (judge host left x t (λ b. if b then k (truth_text true) t else truth_behind host right t k)) ≡ see end
  or_ends None x right t end k e h = absurd (cc)
  or_ends (Some true) x right t end k e h = absurd (cc)
  or_ends (Some false) x right t end k e h = h (λ z s'. judge host (truth_of z) z s' (λ b. k (truth_text b) s'))

  ends_behind : (op : Infix) → Kind op → (x : List ℕ) (right : Right) (t : S) (end : R) (k : List ℕ → S → R) → needs_right op (truth_of x) ≡ true
      → RightEnded right t end → see (value_behind host (joining op) op x right t k) ≡ see end
  ends_behind _ both x right t end k e h = and_ends (truth_of x) x right t end k e h
  ends_behind _ either x right t end k e h = or_ends (truth_of x) x right t end k e h
  ends_behind _ (plain op j n p q) x right t end k e h = rw j (h (λ z s'. settle host (value_of op x z) x z s' k))

  -- what comes behind the left side
  abbrev behind : Infix → Tree → (List ℕ → S → R) → List ℕ → S → R
  behind op b k x t = value_behind host (joining op) op x (λ t' l. value host b t' l) t k

  pub right_alone : (op : Infix) (a b : Tree) (s t : S) (x any : List ℕ) → Comes host see a s x t → needs_right op (truth_of x) ≡ false
      → Settles host see (Two op a b) s (value_of op x any) x [] t
  unfolding value
  right_alone op a b s t x any c e =
      settles (value_of op x any) (Two op a b) s t x []
      (λ k. c (behind op b k) ∙ ap see (alone_behind op (kind op) x any (λ t' l. value host b t' l) t k e))

  pub right_taken : (op : Infix) (a b : Tree) (s t u : S) (x y : List ℕ) → Comes host see a s x t → needs_right op (truth_of x) ≡ true
      → Comes host see b t y u → Settles host see (Two op a b) s (value_of op x y) (told_first op x y) (told_second op x y) u
  unfolding value
  right_taken op a b s t u x y c e d =
      settles (value_of op x y) (Two op a b) s u (told_first op x y) (told_second op x y)
      (λ k. c (behind op b k) ∙ taken_behind op (kind op) x y (λ t' l. value host b t' l) t u k e d)

  sides : (needed : Bool) (op : Infix) (a b : Tree) (s t u : S) (x y v : List ℕ) → needs_right op (truth_of x) ≡ needed
      → Comes host see a s x t → Comes host see b t y u → value_of op x y ≡ Ok v
      → Comes host see (Two op a b) s v (if needed then u else t)
  sides true op a b s t u x y v n c d e =
      let P : Value → Type 0 = λ w. Settles host see (Two op a b) s w (told_first op x y) (told_second op x y) u in
      subst P e (right_taken op a b s t u x y c n d)
  sides false op a b s t u x y v n c d e =
      let P : Value → Type 0 = λ w. Settles host see (Two op a b) s w x [] t in
      subst P e (right_alone op a b s t x y c n)

  pub sides_applied : (op : Infix) (a b : Tree) (s t u : S) (x y v : List ℕ)
      → Comes host see a s x t → Comes host see b t y u → value_of op x y ≡ Ok v
      → Comes host see (Two op a b) s v (if needs_right op (truth_of x) then u else t)
  sides_applied op a b s t u x y v c d e = sides (needs_right op (truth_of x)) op a b s t u x y v refl c d e

  pub one_applied : (op : Prefix) (a : Tree) (s t : S) (x : List ℕ) → Comes host see a s x t → Settles host see (One op a) s (value_of_one op x) x [] t
  unfolding value
  one_applied op a s t x c = settles (value_of_one op x) (One op a) s t x [] (λ k. c (λ z s'. settle host (value_of_one op z) z [] s' k))

  pub operand_loaded : (pieces : List Piece) (s t : S) (x : List ℕ) → ((k : List ℕ → S → R) → see (host.load pieces s k) ≡ see (k x t))
      → Comes host see (Operand pieces) s x t
  unfolding value
  operand_loaded pieces s t x h = h

  pub one_ends : (op : Prefix) (a : Tree) (s : S) (end : R) → Ends host see a s end → Ends host see (One op a) s end
  unfolding value
  one_ends op a s end c = λ k. c (λ z s'. settle host (value_of_one op z) z [] s' k)

  pub left_ends : (op : Infix) (a b : Tree) (s : S) (end : R) → Ends host see a s end → Ends host see (Two op a b) s end
  unfolding value
  left_ends op a b s end c = λ k. c (behind op b k)

  pub right_ends : (op : Infix) (a b : Tree) (s t : S) (x : List ℕ) (end : R) → Comes host see a s x t → needs_right op (truth_of x) ≡ true
      → Ends host see b t end → Ends host see (Two op a b) s end
  unfolding value
  right_ends op a b s t x end c e d = λ k. c (behind op b k) ∙ ends_behind op (kind op) x (λ t' l. value host b t' l) t end k e d

  -- what comes behind a condition
  abbrev branches : Tree → Tree → (List ℕ → S → R) → List ℕ → S → R
  branches a b k x t = judge host (truth_of x) x t (λ h. if h then value host a t k else value host b t k)

  chosen : (holds : Bool) (o : Option Bool) (a b : Tree) (t : S) (x : List ℕ) (k : List ℕ → S → R) → o ≡ Some holds
      → judge host o x t (λ h. if h then value host a t k else value host b t k) ≡ value host (if holds then a else b) t k
  chosen true o a b t x k e = rw e refl
  chosen false o a b t x k e = rw e refl

  pub branch_chosen : (c a b : Tree) (s t : S) (x : List ℕ) (holds : Bool) → Comes host see c s x t → truth_of x ≡ Some holds
      → DoesAs host see (Choice c a b) s (if holds then a else b) t
  unfolding value
  branch_chosen c a b s t x holds d e = λ k. d (branches a b k) ∙ ap see (chosen holds (truth_of x) a b t x k e)

  pub no_branch_chosen : (c a b : Tree) (s t : S) (x : List ℕ) → Comes host see c s x t → truth_of x ≡ None
      → Ends host see (Choice c a b) s (host.fail NotTruth x [] t)
  unfolding value
  no_branch_chosen c a b s t x d e =
      λ k. d (branches a b k) ∙ ap (λ o. see (judge host o x t (λ h. if h then value host a t k else value host b t k))) e

  pub condition_ends : (c a b : Tree) (s : S) (end : R) → Ends host see c s end → Ends host see (Choice c a b) s end
  unfolding value
  condition_ends c a b s end d = λ k. d (branches a b k)
