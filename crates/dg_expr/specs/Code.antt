-- The value of a tree, and the code that computes it.
use Rattle.std.specs.Prelude.{ℕ, zero, suc, ◌+◌, List, [], ◌∷◌, ◌++◌, length, Bool, true, false, Option, None, Some, Ok, Err, if◌then◌else◌}
use Rattle.dg_words.specs.Piece.{Piece}
use Rattle.dg_expr.specs.declared.code.Instruction.{Instruction}
use Rattle.dg_expr.specs.declared.code.Instruction.TheVariants as code
use Rattle.dg_expr.specs.declared.code.Joins.{Joins}
use Rattle.dg_expr.specs.declared.code.Joins.TheVariants as joins
use Rattle.dg_expr.specs.declared.fault.ExprFault.{ExprFault}
use Rattle.dg_expr.specs.declared.fault.ExprFault.TheVariants.{NotTruth}
use Rattle.dg_expr.specs.declared.operator.Infix.{Infix}
use Rattle.dg_expr.specs.declared.operator.Infix.TheVariants as between
use Rattle.dg_expr.specs.Operator.{Value, value_of, value_of_one}
use Rattle.dg_expr.specs.Tree.{Tree, Operand, One, Two, Choice}
use Rattle.dg_expr.specs.Truth.{truth_of, truth_text}

-- What substitutes the pieces of an operand in a state and goes on with its text, and what ends an expression with a
-- fault: with the texts of the left and the right operand, or of the one operand and nothing.
pub record Host (S R : Type 0) : Type 0 where
  pub load : List Piece → S → (List ℕ → S → R) → R
  pub fail : ExprFault → List ℕ → List ℕ → S → R

-- a value goes on
abbrev pub settle : {S R : Type 0} → Host S R → Value → List ℕ → List ℕ → S → (List ℕ → S → R) → R
settle host (Ok v) x y s k = k v s
settle host (Err f) x y s k = host.fail f x y s

-- so does the truth of a text
abbrev pub judge : {S R : Type 0} → Host S R → Option Bool → List ℕ → S → (Bool → R) → R
judge host None x s k = host.fail NotTruth x [] s
judge host (Some t) x s k = k t

-- how an operator uses its right operand
abbrev pub joining : Infix → Joins
joining between.And = joins.WhereTrue
joining between.Or = joins.WhereFalse
joining op = joins.Always

abbrev pub truth_behind : {S R : Type 0} → Host S R → (S → (List ℕ → S → R) → R) → S → (List ℕ → S → R) → R
truth_behind host right s k = right s (λ y s'. judge host (truth_of y) y s' (λ t. k (truth_text t) s'))

abbrev pub value_behind : {S R : Type 0} → Host S R → Joins → Infix → List ℕ → (S → (List ℕ → S → R) → R) → S → (List ℕ → S → R) → R
value_behind host joins.Always op x right s k = right s (λ y s'. settle host (value_of op x y) x y s' k)
value_behind host joins.WhereTrue op x right s k =
    judge host (truth_of x) x s (λ t. if t then truth_behind host right s k else k (truth_text false) s)
value_behind host joins.WhereFalse op x right s k =
    judge host (truth_of x) x s (λ t. if t then k (truth_text true) s else truth_behind host right s k)

-- The value of a tree: operands are substituted from left to right, and only those that are needed.
unfoldable pub value : {S R : Type 0} → Host S R → Tree → S → (List ℕ → S → R) → R
value host (Operand pieces) s k = host.load pieces s k
value host (One op a) s k = value host a s (λ x s'. settle host (value_of_one op x) x [] s' k)
value host (Two op a b) s k = value host a s (λ x s'. value_behind host (joining op) op x (λ t l. value host b t l) s' k)
value host (Choice c a b) s k =
    value host c s (λ x s'. judge host (truth_of x) x s' (λ t. if t then value host a s' k else value host b s' k))

-- the code behind that of a left operand
abbrev pub right_code : Joins → Infix → List Instruction → List Instruction
right_code joins.Always op right = right ++ code.Apply op ∷ []
right_code joins.WhereTrue op right = code.And (length right + 1) ∷ (right ++ code.Truth ∷ [])
right_code joins.WhereFalse op right = code.Or (length right + 1) ∷ (right ++ code.Truth ∷ [])

-- The code of a tree.
unfoldable pub code_of : Tree → List Instruction
code_of (Operand pieces) = code.Push pieces ∷ []
code_of (One op a) = code_of a ++ code.ApplyOne op ∷ []
code_of (Two op a b) = code_of a ++ right_code (joining op) op (code_of b)
code_of (Choice c a b) =
    code_of c ++ (code.Unless (length (code_of a) + 1) ∷ (code_of a ++ (code.Skip (length (code_of b)) ∷ code_of b)))

abbrev pub top : List (List ℕ) → List ℕ
top [] = []
top (v ∷ vs) = v

abbrev pub below : List (List ℕ) → List (List ℕ)
below [] = []
below (v ∷ vs) = vs

-- Code on a stack, of which so many instructions are passed over. It ends with the top.
unfoldable pub run : {S R : Type 0} → Host S R → List (List ℕ) → ℕ → List Instruction → S → (List ℕ → S → R) → R
run host vs n [] s k = k (top vs) s
run host vs (suc n) (i ∷ is) s k = run host vs n is s k
run host vs zero (code.Push pieces ∷ is) s k = host.load pieces s (λ v s'. run host (v ∷ vs) 0 is s' k)
run host vs zero (code.ApplyOne op ∷ is) s k =
    settle host (value_of_one op (top vs)) (top vs) [] s (λ v s'. run host (v ∷ below vs) 0 is s' k)
run host vs zero (code.Apply op ∷ is) s k =
    settle host (value_of op (top (below vs)) (top vs)) (top (below vs)) (top vs) s (λ v s'. run host (v ∷ below (below vs)) 0 is s' k)
run host vs zero (code.And n ∷ is) s k =
    judge host (truth_of (top vs)) (top vs) s (λ t. if t then run host (below vs) 0 is s k else run host (truth_text false ∷ below vs) n is s k)
run host vs zero (code.Or n ∷ is) s k =
    judge host (truth_of (top vs)) (top vs) s (λ t. if t then run host (truth_text true ∷ below vs) n is s k else run host (below vs) 0 is s k)
run host vs zero (code.Truth ∷ is) s k = judge host (truth_of (top vs)) (top vs) s (λ t. run host (truth_text t ∷ below vs) 0 is s k)
run host vs zero (code.Unless n ∷ is) s k =
    judge host (truth_of (top vs)) (top vs) s (λ t. if t then run host (below vs) 0 is s k else run host (below vs) n is s k)
run host vs zero (code.Skip n ∷ is) s k = run host vs n is s k
