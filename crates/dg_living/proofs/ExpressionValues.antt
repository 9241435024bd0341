-- The values of expressions.
use Rattle.std.proofs.Common.{ℕ, Bool, true, false, List, [], ◌∷◌, ◌++◌, length, arith}
use Rattle.std.specs.Prelude.{Option, Some, None, Ok, Err, if◌then◌else◌}
use Rattle.dg_expr.specs.declared.code.Joins.{Joins}
use Rattle.dg_expr.specs.declared.code.Joins.TheVariants.{Always, WhereTrue, WhereFalse}
use Rattle.dg_expr.specs.declared.operator.Infix.{Infix}
use Rattle.dg_expr.specs.Code.{settle, judge, joining, truth_behind, value_behind, value}
use Rattle.dg_expr.specs.Operator.{Value, value_of, value_of_one}
use Rattle.dg_expr.specs.Reading.{tree_in}
use Rattle.dg_expr.specs.Tree.{Tree, Operand, One, Two, Choice}
use Rattle.dg_expr.specs.Truth.{truth_of, truth_text}
use Rattle.dg_language.specs.declared.code.Code.TheVariants.{Done}
use Rattle.dg_language.specs.Play.{Play}
use Rattle.dg_language.specs.State.{State}
use Rattle.dg_language.specs.Evaluation.{Ending, Then, Nested}
use Rattle.dg_language.specs.Expressions.{host, value_of_tree, calculate, judged, condition, in_decimal, behind_spaces, do_expr}
use Rattle.dg_living.proofs.Steps.{Lives}
use Rattle.dg_living.proofs.Steps.{LivesInside, completes, either_if, within-lives, fail-lives, if_done-lives}
use Rattle.dg_language.specs.Words.{nested_in}
use Rattle.dg_living.proofs.WordMaking.{joined-lives}

module _ (nested : Nested) (inside : LivesInside nested) where
  settle-lives : (r : Value) (x y : List ℕ) (s : State) {f : List ℕ → State → Then → Play Ending}
      → ((v : List ℕ) (s' : State) → Lives s' (f v s')) → Lives s (λ k. settle (host nested k) r x y s (λ v s'. f v s' k))
  unfolding host
  settle-lives (Ok v) x y s f = f v s
  settle-lives (Err fault) x y s f = fail-lives _ s

  judge-lives : (o : Option Bool) (x : List ℕ) (s : State) {f : Bool → Then → Play Ending} → ((t : Bool) → Lives s (f t))
      → Lives s (λ k. judge (host nested k) o x s (λ t. f t k))
  unfolding host
  judge-lives None x s f = fail-lives _ s
  judge-lives (Some t) x s f = f t

  -- whatever comes after the value of a tree
  LivesValue : Tree → Type 0
  LivesValue tree = (s : State) (f : List ℕ → State → Then → Play Ending) → ((v : List ℕ) (s' : State) → Lives s' (f v s'))
      → Lives s (λ k. value (host nested k) tree s (λ v s'. f v s' k))

  truth_behind-lives : (right : Tree) → LivesValue right → (s : State) {f : List ℕ → State → Then → Play Ending}
      → ((v : List ℕ) (s' : State) → Lives s' (f v s'))
      → Lives s (λ k. truth_behind (host nested k) (λ t l. value (host nested k) right t l) s (λ v s'. f v s' k))
  unfolding LivesValue
  truth_behind-lives right is s {f} more =
      is s (λ y s' k. judge (host nested k) (truth_of y) y s' (λ t. f (truth_text t) s' k))
      (λ y s'. judge-lives (truth_of y) y s' (λ t. more (truth_text t) s'))

  value_behind-lives : (j : Joins) (op : Infix) (x : List ℕ) (right : Tree) → LivesValue right → (s : State)
      {f : List ℕ → State → Then → Play Ending} → ((v : List ℕ) (s' : State) → Lives s' (f v s'))
      → Lives s (λ k. value_behind (host nested k) j op x (λ t l. value (host nested k) right t l) s (λ v s'. f v s' k))
  unfolding LivesValue
  value_behind-lives Always op x right is s {f} more =
      is s (λ y s' k. settle (host nested k) (value_of op x y) x y s' (λ v t. f v t k))
      (λ y s'. settle-lives (value_of op x y) x y s' more)
  value_behind-lives WhereTrue op x right is s more =
      judge-lives (truth_of x) x s (λ t. either_if t (truth_behind-lives right is s more) (more (truth_text false) s))
  value_behind-lives WhereFalse op x right is s more =
      judge-lives (truth_of x) x s (λ t. either_if t (more (truth_text true) s) (truth_behind-lives right is s more))

  value-lives : (tree : Tree) → LivesValue tree
  unfolding value LivesValue host
  value-lives (Operand pieces) s f more = joined-lives nested inside (nested_in pieces) [] s (omega arith) (λ v t short. more v t)
  value-lives (One op a) s f more =
      value-lives a s (λ x s' k. settle (host nested k) (value_of_one op x) x [] s' (λ v t. f v t k))
      (λ x s'. settle-lives (value_of_one op x) x [] s' more)
  value-lives (Two op a b) s f more =
      value-lives a s (λ x s' k. value_behind (host nested k) (joining op) op x (λ t l. value (host nested k) b t l) s' (λ v t. f v t k))
      (λ x s'. value_behind-lives (joining op) op x b (value-lives b) s' more)
  value-lives (Choice c a b) s f more =
      value-lives c s
      (λ x s' k. judge (host nested k) (truth_of x) x s' (λ t.
      if t then value (host nested k) a s' (λ v u. f v u k) else value (host nested k) b s' (λ v u. f v u k)))
      (λ x s'. judge-lives (truth_of x) x s' (λ t. either_if t (value-lives a s' f more) (value-lives b s' f more)))

  value_of_tree-lives : (tree : Option Tree) (text : List ℕ) (s : State) → Lives s (value_of_tree nested tree text s)
  unfolding LivesValue
  value_of_tree-lives None text s = fail-lives _ s
  value_of_tree-lives (Some tree) text s = value-lives tree s (λ v s' k. k Done v s') (λ v s'. completes Done v s')

  calculate-lives : (text : List ℕ) (s : State) → Lives s (calculate nested text s)
  unfolding calculate
  calculate-lives text s = value_of_tree-lives (tree_in text) text s

  judged-lives : (truth : Option Bool) (v : List ℕ) (s : State) {f : Bool → Then → Play Ending} → ((holds : Bool) → Lives s (f holds))
      → Lives s (λ k. judged truth v s k (λ holds. f holds k))
  judged-lives None v s f = fail-lives _ s
  judged-lives (Some holds) v s f = f holds

  pub condition-lives : (text : List ℕ) (s : State) {f : Bool → State → Then → Play Ending}
      → ((holds : Bool) (s' : State) → Lives s' (f holds s')) → Lives s (λ k. condition nested text s (λ holds s'. f holds s' k) k)
  unfolding condition
  condition-lives text s more =
      if_done-lives (calculate-lives text s) (λ v s'. judged-lives (truth_of v) v s' (λ holds. more holds s'))

  pub do_expr-lives : (args : List (List ℕ)) (s : State) → Lives s (do_expr nested args s)
  unfolding do_expr
  do_expr-lives [] s = fail-lives _ s
  do_expr-lives (w ∷ ws) s =
      within-lives (length (w ++ behind_spaces ws)) s
      (if_done-lives (calculate-lives (w ++ behind_spaces ws) s) (λ v s'. completes Done (in_decimal v) s'))
