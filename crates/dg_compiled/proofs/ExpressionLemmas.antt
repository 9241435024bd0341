-- The code of expressions, an instruction at a time.
use Rattle.std.proofs.Common.{◌≡◌, ℕ, zero, suc, ◌-◌, ◌<◌, ◌≤◌, Bool, true, false, List, [], ◌∷◌, ◌++◌, length, ap, sym, ◌∙◌, refl, arith}
use Rattle.std.proofs.lemmas.List.{append-nil}
use Rattle.std.specs.Prelude.{Option, Some, None, Ok, Err, codes}
use Rattle.dg_expr.proofs.Running.{runs}
use Rattle.dg_expr.specs.Code.{below, code_of, judge, run, settle, top, value}
use Rattle.dg_expr.specs.Operator.{Value, value_of, value_of_one}
use Rattle.dg_expr.specs.Reading.{tree_in}
use Rattle.dg_expr.specs.Tree.{Tree}
use Rattle.dg_expr.specs.Truth.{truth_of, truth_text}
use Rattle.dg_expr.specs.declared.code.Instruction.{Instruction}
use Rattle.dg_expr.specs.declared.code.Instruction.TheVariants as code
use Rattle.dg_expr.specs.declared.operator.Infix.{Infix}
use Rattle.dg_expr.specs.declared.operator.Prefix.{Prefix}
use Rattle.dg_expr.specs.declared.fault.ExprFault.TheVariants.{Syntax, NotTruth}
use Rattle.dg_language.specs.declared.code.Code.TheVariants.{Done}
use Rattle.dg_language.specs.Play.{Play}
use Rattle.dg_language.specs.State.{State}
use Rattle.dg_language.specs.Evaluation.{Ending, Then, Nested, cut, fail}
use Rattle.dg_language.specs.Expressions.{host, fault_message, value_of_tree, calculate, code_in, or_fault, or_no_truth, judged, do_expr, behind_spaces, written}
use Rattle.dg_language.proofs.TouchLemmas.{within-short, within-long}
use Rattle.dg_language.specs.Language.{evaluate}
use Rattle.dg_compiled.specs.Calculating.{calculating}
use Rattle.dg_compiled.specs.declared.calculation.Calculation.{Calculation}

module _ (nested : Nested) (k : Then) where
  -- the whole code of a tree
  runs-whole : (tree : Tree) (s : State) → run (host nested k) [] 0 (code_of tree) s (k Done) ≡ value (host nested k) tree s (k Done)
  unfolding run
  runs-whole tree s = ap (λ xs. run (host nested k) [] 0 xs s (k Done)) (sym (append-nil (code_of tree))) ∙ runs (host nested k) tree [] [] s (k Done)

  pub calculate-code : (text : List ℕ) (code : List Instruction) (s : State) → Some code ≡ code_in (tree_in text)
      → run (host nested k) [] 0 code s (k Done) ≡ calculate nested text s k
  unfolding calculate
  calculate-code text code s e = step (tree_in text) e
    where
      step : (o : Option Tree) → Some code ≡ code_in o → run (host nested k) [] 0 code s (k Done) ≡ value_of_tree nested o text s k
      step None h = cc
      step (Some tree) h = let same : code ≡ code_of tree = cc in rw same (runs-whole tree s)

  pub calculate-none : (text : List ℕ) (s : State) → None ≡ code_in (tree_in text) → calculate nested text s k ≡ fail (fault_message Syntax text []) s k
  unfolding calculate
  calculate-none text s e = step (tree_in text) e
    where
      step : (o : Option Tree) → None ≡ code_in o → value_of_tree nested o text s k ≡ fail (fault_message Syntax text []) s k
      step None h = refl
      step (Some tree) h = cc

  -- a text that has no truth, and one that has
  pub judge-fault : (o : Option Bool) (x m : List ℕ) (s : State) (f : Bool → Play Ending) → Err m ≡ or_no_truth o x → judge (host nested k) o x s f ≡ fail m s k
  unfolding host
  judge-fault None x m s f e = let same : m ≡ fault_message NotTruth x [] = cc in rw same refl
  judge-fault (Some t) x m s f e = cc

  pub judge-truth : (o : Option Bool) (x : List ℕ) (t : Bool) (s : State) (f : Bool → Play Ending) → Ok t ≡ or_no_truth o x → judge (host nested k) o x s f ≡ f t
  judge-truth None x t s f e = cc
  judge-truth (Some u) x t s f e = let same : u ≡ t = cc in rw same refl

  -- an operator that has no value, and one that has
  pub settle-fault : (r : Value) (x y m : List ℕ) (s : State) (f : List ℕ → State → Play Ending) → Err m ≡ or_fault r x y
      → settle (host nested k) r x y s f ≡ fail m s k
  unfolding host
  settle-fault (Ok v) x y m s f e = cc
  settle-fault (Err fault) x y m s f e = let same : m ≡ fault_message fault x y = cc in rw same refl

  pub settle-value : (r : Value) (x y v : List ℕ) (s : State) (f : List ℕ → State → Play Ending) → Ok v ≡ or_fault r x y
      → settle (host nested k) r x y s f ≡ f v s
  settle-value (Ok u) x y v s f e = let same : u ≡ v = cc in rw same refl
  settle-value (Err fault) x y v s f e = cc

-- an expression of which nothing is computed yet
pub begun-calculates : (c : Calculation) (o : Option (List Instruction)) (text : List ℕ) (d : ℕ) (s : State) (k : Then) → o ≡ code_in (tree_in text) → o ≡ Some c.left
    → c ≡ record { values = []; passed = 0; left = c.left; depth = d } → calculating c s k ≡ calculate (evaluate d) text s k
begun-calculates c o text d s k e f g = ap (λ (x : Calculation). calculating x s k) g ∙ calculate-code (evaluate d) k text c.left s (sym f ∙ e)

-- the truth of a value outside of an expression
pub judged-fault : (o : Option Bool) (v m : List ℕ) (s : State) (k : Then) (f : Bool → Play Ending) → Err m ≡ or_no_truth o v → judged o v s k f ≡ fail m s k
judged-fault None v m s k f e = let same : m ≡ fault_message NotTruth v [] = cc in rw same refl
judged-fault (Some t) v m s k f e = cc

pub judged-truth : (o : Option Bool) (v : List ℕ) (t : Bool) (s : State) (k : Then) (f : Bool → Play Ending) → Ok t ≡ or_no_truth o v → judged o v s k f ≡ f t
judged-truth None v t s k f e = cc
judged-truth (Some u) v t s k f e = let same : u ≡ t = cc in rw same refl

-- one equation for each way on of an instruction
module _ (nested : Nested) (k : Then) (vs : List (List ℕ)) (is : List Instruction) (s : State) where
  pub and-true : (n : ℕ) → Ok true ≡ or_no_truth (truth_of (top vs)) (top vs)
      → run (host nested k) vs 0 (code.And n ∷ is) s (k Done) ≡ run (host nested k) (below vs) 0 is s (k Done)
  unfolding run
  and-true n e = judge-truth nested k (truth_of (top vs)) (top vs) true s _ e

  pub and-false : (n : ℕ) → Ok false ≡ or_no_truth (truth_of (top vs)) (top vs)
      → run (host nested k) vs 0 (code.And n ∷ is) s (k Done) ≡ run (host nested k) (truth_text false ∷ below vs) n is s (k Done)
  unfolding run
  and-false n e = judge-truth nested k (truth_of (top vs)) (top vs) false s _ e

  pub and-fault : (n : ℕ) (m : List ℕ) → Err m ≡ or_no_truth (truth_of (top vs)) (top vs)
      → run (host nested k) vs 0 (code.And n ∷ is) s (k Done) ≡ fail m s k
  unfolding run
  and-fault n m e = judge-fault nested k (truth_of (top vs)) (top vs) m s _ e

  pub or-true : (n : ℕ) → Ok true ≡ or_no_truth (truth_of (top vs)) (top vs)
      → run (host nested k) vs 0 (code.Or n ∷ is) s (k Done) ≡ run (host nested k) (truth_text true ∷ below vs) n is s (k Done)
  unfolding run
  or-true n e = judge-truth nested k (truth_of (top vs)) (top vs) true s _ e

  pub or-false : (n : ℕ) → Ok false ≡ or_no_truth (truth_of (top vs)) (top vs)
      → run (host nested k) vs 0 (code.Or n ∷ is) s (k Done) ≡ run (host nested k) (below vs) 0 is s (k Done)
  unfolding run
  or-false n e = judge-truth nested k (truth_of (top vs)) (top vs) false s _ e

  pub or-fault : (n : ℕ) (m : List ℕ) → Err m ≡ or_no_truth (truth_of (top vs)) (top vs)
      → run (host nested k) vs 0 (code.Or n ∷ is) s (k Done) ≡ fail m s k
  unfolding run
  or-fault n m e = judge-fault nested k (truth_of (top vs)) (top vs) m s _ e

  pub tell-truth : (t : Bool) → Ok t ≡ or_no_truth (truth_of (top vs)) (top vs)
      → run (host nested k) vs 0 (code.Truth ∷ is) s (k Done) ≡ run (host nested k) (truth_text t ∷ below vs) 0 is s (k Done)
  unfolding run
  tell-truth t e = judge-truth nested k (truth_of (top vs)) (top vs) t s (λ u. run (host nested k) (truth_text u ∷ below vs) 0 is s (k Done)) e

  pub tell-fault : (m : List ℕ) → Err m ≡ or_no_truth (truth_of (top vs)) (top vs)
      → run (host nested k) vs 0 (code.Truth ∷ is) s (k Done) ≡ fail m s k
  unfolding run
  tell-fault m e = judge-fault nested k (truth_of (top vs)) (top vs) m s _ e

  pub unless-true : (n : ℕ) → Ok true ≡ or_no_truth (truth_of (top vs)) (top vs)
      → run (host nested k) vs 0 (code.Unless n ∷ is) s (k Done) ≡ run (host nested k) (below vs) 0 is s (k Done)
  unfolding run
  unless-true n e = judge-truth nested k (truth_of (top vs)) (top vs) true s _ e

  pub unless-false : (n : ℕ) → Ok false ≡ or_no_truth (truth_of (top vs)) (top vs)
      → run (host nested k) vs 0 (code.Unless n ∷ is) s (k Done) ≡ run (host nested k) (below vs) n is s (k Done)
  unfolding run
  unless-false n e = judge-truth nested k (truth_of (top vs)) (top vs) false s _ e

  pub unless-fault : (n : ℕ) (m : List ℕ) → Err m ≡ or_no_truth (truth_of (top vs)) (top vs)
      → run (host nested k) vs 0 (code.Unless n ∷ is) s (k Done) ≡ fail m s k
  unfolding run
  unless-fault n m e = judge-fault nested k (truth_of (top vs)) (top vs) m s _ e

  pub one-value : (op : Prefix) (v : List ℕ) → Ok v ≡ or_fault (value_of_one op (top vs)) (top vs) []
      → run (host nested k) vs 0 (code.ApplyOne op ∷ is) s (k Done) ≡ run (host nested k) (v ∷ below vs) 0 is s (k Done)
  unfolding run
  one-value op v e =
      settle-value nested k (value_of_one op (top vs)) (top vs) [] v s (λ u t. run (host nested k) (u ∷ below vs) 0 is t (k Done)) e

  pub one-fault : (op : Prefix) (m : List ℕ) → Err m ≡ or_fault (value_of_one op (top vs)) (top vs) []
      → run (host nested k) vs 0 (code.ApplyOne op ∷ is) s (k Done) ≡ fail m s k
  unfolding run
  one-fault op m e = settle-fault nested k (value_of_one op (top vs)) (top vs) [] m s _ e

  pub two-value : (op : Infix) (v : List ℕ) → Ok v ≡ or_fault (value_of op (top (below vs)) (top vs)) (top (below vs)) (top vs)
      → run (host nested k) vs 0 (code.Apply op ∷ is) s (k Done) ≡ run (host nested k) (v ∷ below (below vs)) 0 is s (k Done)
  unfolding run
  two-value op v e =
      settle-value nested k (value_of op (top (below vs)) (top vs)) (top (below vs)) (top vs) v s
      (λ u t. run (host nested k) (u ∷ below (below vs)) 0 is t (k Done)) e

  pub two-fault : (op : Infix) (m : List ℕ) → Err m ≡ or_fault (value_of op (top (below vs)) (top vs)) (top (below vs)) (top vs)
      → run (host nested k) vs 0 (code.Apply op ∷ is) s (k Done) ≡ fail m s k
  unfolding run
  two-fault op m e = settle-fault nested k (value_of op (top (below vs)) (top vs)) (top (below vs)) (top vs) m s _ e

  -- the end of the code, an instruction that is passed over, and one that runs
  pub run-none : (n : ℕ) (left : List Instruction) → left ≡ [] → run (host nested k) vs n left s (k Done) ≡ k Done (top vs) s
  unfolding run
  run-none n left e = rw e refl

  pub run-passed : (n : ℕ) (left : List Instruction) (i : Instruction) → left ≡ i ∷ is → 0 < n
      → run (host nested k) vs n left s (k Done) ≡ run (host nested k) vs (n - 1) is s (k Done)
  unfolding run
  run-passed zero left i e l = absurd (omega arith)
  run-passed (suc n) left i e l = let same : suc n - 1 ≡ n = omega arith in rw (e, same) refl

  pub run-now : (n : ℕ) (left : List Instruction) (i : Instruction) → left ≡ i ∷ is → n ≤ 0
      → run (host nested k) vs n left s (k Done) ≡ run (host nested k) vs 0 (i ∷ is) s (k Done)
  run-now zero left i e l = rw e refl
  run-now (suc n) left i e l = absurd (omega arith)

-- the words of `expr`
module _ (nested : Nested) (args : List (List ℕ)) (w : List ℕ) (ws : List (List ℕ)) (e : args ≡ w ∷ ws) (s : State) (k : Then) where
  pub expr-long : 1048576 < length (w ++ behind_spaces ws) → do_expr nested args s k ≡ cut (codes "value too long") s
  unfolding do_expr
  expr-long h = rw e (within-long (length (w ++ behind_spaces ws)) s _ h)

  pub expr-short : length (w ++ behind_spaces ws) ≤ 1048576 → do_expr nested args s k ≡ calculate nested (w ++ behind_spaces ws) s (written k)
  unfolding do_expr
  expr-short h = rw e (within-short (length (w ++ behind_spaces ws)) s _ h)
