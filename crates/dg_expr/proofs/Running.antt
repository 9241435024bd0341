-- Code that runs gives the value of its tree.
use Rattle.std.proofs.Common.{◌≡◌, ℕ, suc, ◌+◌, List, [], ◌∷◌, ◌++◌, length, Bool, true, false, Option, None, Some, refl, ap, ◌∙◌, arith, append_assoc}
use Rattle.std.specs.Prelude.{if◌then◌else◌}
use Rattle.dg_expr.specs.declared.code.Instruction.{Instruction}
use Rattle.dg_expr.specs.declared.code.Instruction.TheVariants as code
use Rattle.dg_expr.specs.declared.code.Joins.{Joins}
use Rattle.dg_expr.specs.declared.code.Joins.TheVariants as joins
use Rattle.dg_expr.specs.declared.operator.Infix.{Infix}
use Rattle.dg_expr.specs.Code.{Host, code_of, joining, judge, right_code, run, truth_behind, value, value_behind}
use Rattle.dg_expr.specs.Tree.{Tree, Operand, One, Two, Choice}
use Rattle.dg_expr.specs.Truth.{truth_of, truth_text}

module _ {S R : Type 0} (host : Host S R) where
  passes_over : (vs : List (List ℕ)) (xs is : List Instruction) (s : S) (k : List ℕ → S → R) → run host vs (length xs) (xs ++ is) s k ≡ run host vs 0 is s k
  unfolding run
  passes_over vs [] is s k = refl
  passes_over vs (x ∷ xs) is s k = passes_over vs xs is s k

  -- so many instructions and one more
  passes_over-one : (vs : List (List ℕ)) (xs : List Instruction) (i : Instruction) (is : List Instruction) (s : S) (k : List ℕ → S → R)
      → run host vs (length xs + 1) (xs ++ i ∷ is) s k ≡ run host vs 0 is s k
  unfolding run
  passes_over-one vs [] i is s k = refl
  passes_over-one vs (x ∷ xs) i is s k =
      let e : length (x ∷ xs) + 1 ≡ suc (length xs + 1) = omega arith in
      ap (λ n. run host vs n ((x ∷ xs) ++ i ∷ is) s k) e ∙ passes_over-one vs xs i is s k

  same_judge : (o : Option Bool) (x : List ℕ) (s : S) (f g : Bool → R) → ((t : Bool) → f t ≡ g t) → judge host o x s f ≡ judge host o x s g
  same_judge None x s f g h = refl
  same_judge (Some t) x s f g h = h t

  either : (t : Bool) (p q r u : R) → p ≡ r → q ≡ u → (if t then p else q) ≡ (if t then r else u)
  either true p q r u e h = e
  either false p q r u e h = h

  same_value : (a : Tree) (s : S) (f g : List ℕ → S → R) → ((v : List ℕ) (t : S) → f v t ≡ g v t) → value host a s f ≡ value host a s g
  same_value a s f g h = ap (value host a s) (λ i v t. h v t i)

  -- the code of a right operand, behind the left's value
  Runs : Tree → Type 0
  Runs b = (vs : List (List ℕ)) (is : List Instruction) (s : S) (k : List ℕ → S → R)
      → run host vs 0 (code_of b ++ is) s k ≡ value host b s (λ v s'. run host (v ∷ vs) 0 is s' k)

  runs_truth : (b : Tree) → Runs b → (vs : List (List ℕ)) (is : List Instruction) (s : S) (k : List ℕ → S → R)
      → run host vs 0 ((code_of b ++ code.Truth ∷ []) ++ is) s k ≡ truth_behind host (λ t l. value host b t l) s (λ v s'. run host (v ∷ vs) 0 is s' k)
  unfolding run Runs
  runs_truth b r vs is s k = ap (λ xs. run host vs 0 xs s k) (append_assoc (code_of b) (code.Truth ∷ []) is) ∙ r vs (code.Truth ∷ is) s k

  runs_right : (j : Joins) (op : Infix) (b : Tree) → Runs b → (x : List ℕ) (vs : List (List ℕ)) (is : List Instruction) (s : S) (k : List ℕ → S → R)
      → run host (x ∷ vs) 0 (right_code j op (code_of b) ++ is) s k ≡ value_behind host j op x (λ t l. value host b t l) s (λ v s'. run host (v ∷ vs) 0 is s' k)
  unfolding run Runs
  runs_right joins.Always op b r x vs is s k =
      ap (λ xs. run host (x ∷ vs) 0 xs s k) (append_assoc (code_of b) (code.Apply op ∷ []) is) ∙ r (x ∷ vs) (code.Apply op ∷ is) s k
  runs_right joins.WhereTrue op b r x vs is s k =
      same_judge (truth_of x) x s
      (λ t. if t then run host vs 0 ((code_of b ++ code.Truth ∷ []) ++ is) s k else run host (truth_text false ∷ vs) (length (code_of b) + 1) ((code_of b ++ code.Truth ∷ []) ++ is) s k)
      (λ t. if t then truth_behind host (λ u l. value host b u l) s (λ v s'. run host (v ∷ vs) 0 is s' k) else run host (truth_text false ∷ vs) 0 is s k)
      (λ t. either t _ _ _ _ (runs_truth b r vs is s k)
      (ap (λ xs. run host (truth_text false ∷ vs) (length (code_of b) + 1) xs s k) (append_assoc (code_of b) (code.Truth ∷ []) is)
      ∙ passes_over-one (truth_text false ∷ vs) (code_of b) code.Truth is s k))
  runs_right joins.WhereFalse op b r x vs is s k =
      same_judge (truth_of x) x s
      (λ t. if t then run host (truth_text true ∷ vs) (length (code_of b) + 1) ((code_of b ++ code.Truth ∷ []) ++ is) s k else run host vs 0 ((code_of b ++ code.Truth ∷ []) ++ is) s k)
      (λ t. if t then run host (truth_text true ∷ vs) 0 is s k else truth_behind host (λ u l. value host b u l) s (λ v s'. run host (v ∷ vs) 0 is s' k))
      (λ t. either t _ _ _ _
      (ap (λ xs. run host (truth_text true ∷ vs) (length (code_of b) + 1) xs s k) (append_assoc (code_of b) (code.Truth ∷ []) is)
      ∙ passes_over-one (truth_text true ∷ vs) (code_of b) code.Truth is s k)
      (runs_truth b r vs is s k))

  pub runs : (a : Tree) (vs : List (List ℕ)) (is : List Instruction) (s : S) (k : List ℕ → S → R)
      → run host vs 0 (code_of a ++ is) s k ≡ value host a s (λ v s'. run host (v ∷ vs) 0 is s' k)
  unfolding run value code_of Runs
  runs (Operand pieces) vs is s k = refl
  runs (One op a) vs is s k = ap (λ xs. run host vs 0 xs s k) (append_assoc (code_of a) (code.ApplyOne op ∷ []) is) ∙ runs a vs (code.ApplyOne op ∷ is) s k
  runs (Two op a b) vs is s k =
      ap (λ xs. run host vs 0 xs s k) (append_assoc (code_of a) (right_code (joining op) op (code_of b)) is)
      ∙ runs a vs (right_code (joining op) op (code_of b) ++ is) s k
      ∙ same_value a s _ _ (λ x s'. runs_right (joining op) op b (λ ws js t l. runs b ws js t l) x vs is s' k)
  runs (Choice c a b) vs is s k =
      ap (λ xs. run host vs 0 xs s k) (append_assoc (code_of c) (code.Unless (length (code_of a) + 1) ∷ (code_of a ++ (code.Skip (length (code_of b)) ∷ code_of b))) is)
      ∙ runs c vs (code.Unless (length (code_of a) + 1) ∷ ((code_of a ++ (code.Skip (length (code_of b)) ∷ code_of b)) ++ is)) s k
      ∙ same_value c s _ _ (λ x s'. same_judge (truth_of x) x s' _ _ (λ t. either t _ _ _ _
      (ap (λ xs. run host vs 0 xs s' k) (append_assoc (code_of a) (code.Skip (length (code_of b)) ∷ code_of b) is)
      ∙ runs a vs (code.Skip (length (code_of b)) ∷ (code_of b ++ is)) s' k
      ∙ same_value a s' _ _ (λ v s''. passes_over (v ∷ vs) (code_of b) is s'' k))
      (ap (λ xs. run host vs (length (code_of a) + 1) xs s' k) (append_assoc (code_of a) (code.Skip (length (code_of b)) ∷ code_of b) is)
      ∙ passes_over-one vs (code_of a) (code.Skip (length (code_of b))) (code_of b ++ is) s' k
      ∙ runs b vs is s' k)))
