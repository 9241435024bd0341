-- The values of expressions.
use Rattle.std.proofs.Common.{ℕ, Bool, true, false, List, [], ◌∷◌, ◌++◌, length}
use Rattle.std.specs.Prelude.{Option, Some, None, Ok, Err, if◌then◌else◌}
use Rattle.dg_expr.specs.declared.code.Joins.{Joins}
use Rattle.dg_expr.specs.declared.code.Joins.TheVariants.{Always, WhereTrue, WhereFalse}
use Rattle.dg_expr.specs.declared.operator.Infix.{Infix}
use Rattle.dg_expr.specs.Code.{settle, judge, joining, truth_behind, value_behind, value}
use Rattle.dg_expr.specs.Operator.{Value, value_of, value_of_one}
use Rattle.dg_expr.specs.Reading.{tree_in}
use Rattle.dg_expr.specs.Tree.{Tree, Operand, One, Two, Choice}
use Rattle.dg_expr.specs.Truth.{truth_of, truth_text}
use Rattle.dg_language.specs.declared.code.Code.TheVariants.{Done}
use Rattle.dg_language.specs.Play.{Play}
use Rattle.dg_language.specs.State.{State}
use Rattle.dg_language.specs.Evaluation.{Ending, Then, Nested}
use Rattle.dg_language.specs.Expressions.{host, value_of_tree, calculate, judged, condition, in_decimal, behind_spaces, do_expr}
use Rattle.dg_laws.specs.Grafting.{Grafted}
use Rattle.dg_laws.proofs.Steps.{IsGraftedInside, completes, either_if, within-grafted, fail-grafted, if_done-grafted}
use Rattle.dg_language.specs.Words.{nested_in}
use Rattle.dg_laws.proofs.WordMaking.{joined-grafted}

module _ (nested : Nested) (inside : IsGraftedInside nested) where
  settle-grafted : (r : Value) (x y : List ℕ) (s : State) {f : List ℕ → State → Then → Play Ending}
      → ((v : List ℕ) (s' : State) → Grafted (f v s')) → Grafted (λ k. settle (host nested k) r x y s (λ v s'. f v s' k))
  unfolding host
  settle-grafted (Ok v) x y s f = f v s
  settle-grafted (Err fault) x y s f = fail-grafted _ s

  judge-grafted : (o : Option Bool) (x : List ℕ) (s : State) {f : Bool → Then → Play Ending} → ((t : Bool) → Grafted (f t))
      → Grafted (λ k. judge (host nested k) o x s (λ t. f t k))
  unfolding host
  judge-grafted None x s f = fail-grafted _ s
  judge-grafted (Some t) x s f = f t

  -- whatever comes after the value of a tree
  IsGraftedValue : Tree → Type 0
  IsGraftedValue tree = (s : State) (f : List ℕ → State → Then → Play Ending) → ((v : List ℕ) (s' : State) → Grafted (f v s'))
      → Grafted (λ k. value (host nested k) tree s (λ v s'. f v s' k))

  truth_behind-grafted : (right : Tree) → IsGraftedValue right → (s : State) {f : List ℕ → State → Then → Play Ending}
      → ((v : List ℕ) (s' : State) → Grafted (f v s'))
      → Grafted (λ k. truth_behind (host nested k) (λ t l. value (host nested k) right t l) s (λ v s'. f v s' k))
  unfolding IsGraftedValue
  truth_behind-grafted right is s {f} more =
      is s (λ y s' k. judge (host nested k) (truth_of y) y s' (λ t. f (truth_text t) s' k))
      (λ y s'. judge-grafted (truth_of y) y s' (λ t. more (truth_text t) s'))

  value_behind-grafted : (j : Joins) (op : Infix) (x : List ℕ) (right : Tree) → IsGraftedValue right → (s : State)
      {f : List ℕ → State → Then → Play Ending} → ((v : List ℕ) (s' : State) → Grafted (f v s'))
      → Grafted (λ k. value_behind (host nested k) j op x (λ t l. value (host nested k) right t l) s (λ v s'. f v s' k))
  unfolding IsGraftedValue
  value_behind-grafted Always op x right is s {f} more =
      is s (λ y s' k. settle (host nested k) (value_of op x y) x y s' (λ v t. f v t k))
      (λ y s'. settle-grafted (value_of op x y) x y s' more)
  value_behind-grafted WhereTrue op x right is s more =
      judge-grafted (truth_of x) x s (λ t. either_if t (truth_behind-grafted right is s more) (more (truth_text false) s))
  value_behind-grafted WhereFalse op x right is s more =
      judge-grafted (truth_of x) x s (λ t. either_if t (more (truth_text true) s) (truth_behind-grafted right is s more))

  value-grafted : (tree : Tree) → IsGraftedValue tree
  unfolding value IsGraftedValue host
  value-grafted (Operand pieces) s f more = joined-grafted nested inside (nested_in pieces) [] s more
  value-grafted (One op a) s f more =
      value-grafted a s (λ x s' k. settle (host nested k) (value_of_one op x) x [] s' (λ v t. f v t k))
      (λ x s'. settle-grafted (value_of_one op x) x [] s' more)
  value-grafted (Two op a b) s f more =
      value-grafted a s (λ x s' k. value_behind (host nested k) (joining op) op x (λ t l. value (host nested k) b t l) s' (λ v t. f v t k))
      (λ x s'. value_behind-grafted (joining op) op x b (value-grafted b) s' more)
  value-grafted (Choice c a b) s f more =
      value-grafted c s
      (λ x s' k. judge (host nested k) (truth_of x) x s' (λ t.
      if t then value (host nested k) a s' (λ v u. f v u k) else value (host nested k) b s' (λ v u. f v u k)))
      (λ x s'. judge-grafted (truth_of x) x s' (λ t. either_if t (value-grafted a s' f more) (value-grafted b s' f more)))

  value_of_tree-grafted : (tree : Option Tree) (text : List ℕ) (s : State) → Grafted (value_of_tree nested tree text s)
  unfolding IsGraftedValue
  value_of_tree-grafted None text s = fail-grafted _ s
  value_of_tree-grafted (Some tree) text s = value-grafted tree s (λ v s' k. k Done v s') (λ v s'. completes Done v s')

  calculate-grafted : (text : List ℕ) (s : State) → Grafted (calculate nested text s)
  unfolding calculate
  calculate-grafted text s = value_of_tree-grafted (tree_in text) text s

  judged-grafted : (truth : Option Bool) (v : List ℕ) (s : State) {f : Bool → Then → Play Ending} → ((holds : Bool) → Grafted (f holds))
      → Grafted (λ k. judged truth v s k (λ holds. f holds k))
  judged-grafted None v s f = fail-grafted _ s
  judged-grafted (Some holds) v s f = f holds

  pub condition-grafted : (text : List ℕ) (s : State) {f : Bool → State → Then → Play Ending}
      → ((holds : Bool) (s' : State) → Grafted (f holds s')) → Grafted (λ k. condition nested text s (λ holds s'. f holds s' k) k)
  unfolding condition
  condition-grafted text s more =
      if_done-grafted (calculate-grafted text s) (λ v s'. judged-grafted (truth_of v) v s' (λ holds. more holds s'))

  pub do_expr-grafted : (args : List (List ℕ)) (s : State) → Grafted (do_expr nested args s)
  unfolding do_expr
  do_expr-grafted [] s = fail-grafted _ s
  do_expr-grafted (w ∷ ws) s =
      within-grafted (length (w ++ behind_spaces ws)) s
      (if_done-grafted (calculate-grafted (w ++ behind_spaces ws) s) (λ v s'. completes Done (in_decimal v) s'))
