-- Operands, and instructions that may fail.
use Rattle.std.proofs.Common.{◌≡◌, ℕ, ◌≤◌, List, [], ◌∷◌, length, ap, sym, ◌∙◌, refl, arith}
use Rattle.std.specs.Prelude.{Option, Some, None, Ok, Err, MatchOption}
use Rattle.dg_words.specs.Piece.{Piece}
use Rattle.dg_expr.specs.Code.{run}
use Rattle.dg_expr.specs.Operator.{value_of}
use Rattle.dg_expr.specs.declared.operator.Infix.{Infix}
use Rattle.dg_expr.specs.declared.code.Instruction.{Instruction}
use Rattle.dg_expr.specs.declared.code.Instruction.TheVariants as code
use Rattle.dg_language.specs.declared.code.Code.TheVariants.{Done}
use Rattle.dg_language.specs.declared.substitution.Purpose.{Purpose}
use Rattle.dg_language.specs.declared.substitution.Purpose.TheVariants.{Load}
use Rattle.dg_language.specs.Language.{used, evaluate}
use Rattle.dg_language.specs.declared.substitution.Substitution.{Substitution}
use Rattle.dg_language.specs.Control.{head_or_empty}
use Rattle.dg_language.specs.Expressions.{host, or_fault}
use Rattle.dg_language.specs.WordSteps.{operand_steps}
use Rattle.dg_language.specs.Play.{Play}
use Rattle.dg_language.specs.Evaluation.{Ending, Then, fail, if_done}
use Rattle.dg_language.specs.State.{State}
use Rattle.dg_compiled.specs.declared.computing.Computed.{Computed}
use Rattle.dg_compiled.specs.declared.computing.Computed.TheVariants.{Value, Whole, Failed, Operand}
use Rattle.dg_compiled.specs.declared.calculation.Calculation.{Calculation}
use Rattle.dg_compiled.specs.declared.making.Making.{Making}
use Rattle.dg_compiled.specs.Calculating.{calculating, calculating_with, instructing}
use Rattle.dg_compiled.specs.Computing.{Does, Instructs, Computes}
use Rattle.dg_compiled.specs.Making.{making_on}
use Rattle.dg_compiled.specs.Texts.{Makes}
use Rattle.dg_compiled.proofs.ExpressionLemmas.{run-none, run-now, two-value, two-fault}
use Rattle.dg_compiled.proofs.WordParts.{operand-loaded}
use Rattle.dg_compiled.proofs.GatherLemmas.{gather-none}

pub nothing : (xs : List Substitution) → length xs ≤ 0 → xs ≡ []
nothing [] h = refl
nothing (x ∷ xs) h = absurd (omega arith)

-- an instruction that may fail with a message
pub does-instructs : (i : Instruction) (s : State) (old new : Calculation) (o : Option (List ℕ)) (r : Option Computed) → Does i old new o
    → MatchOption o (r ≡ None) (λ m. r ≡ Some (Failed m)) → Instructs i s old new r
does-instructs i s old new None r d e = rw e (d s)
does-instructs i s old new (Some m) r d e = rw e (d s)

module _ (c : Calculation) (s : State) (pieces : List Piece) (left : List Substitution) (begun made : Making) (e : left ≡ operand_steps pieces)
    (b : begun ≡ record { purpose = Load; made = []; outer = []; text = []; left = left })
    (same : (depth : ℕ) (k : Then) → making_on made depth s k ≡ making_on begun depth s k) where
  -- the words of an operand have begun
  pub operand-begins : (k : Then)
      → instructing c (code.Push pieces) s k ≡ making_on made c.depth s (if_done (λ v t. calculating_with (record c { passed = 0 }) v t k) k)
  unfolding run host
  operand-begins k =
      let then : List ℕ → State → Play Ending = λ v t. calculating_with (record c { passed = 0 }) v t k in
      sym (rw (b, e) at (same c.depth (if_done then k)) ∙ operand-loaded (evaluate c.depth) pieces s k then)

  -- an operand is made
  pub operand-made : made.purpose ≡ begun.purpose → length made.left ≤ 0 → (k : Then)
      → instructing c (code.Push pieces) s k ≡ calculating (record c { values = head_or_empty made.made ∷ c.values; passed = 0 }) s k
  operand-made p none k =
      let after : Then = if_done (λ v t. calculating_with (record c { passed = 0 }) v t k) k in
      let loads : made.purpose ≡ Load = p ∙ ap (λ (m : Making). m.purpose) b in
      operand-begins k
      ∙ gather-none c.depth (used (evaluate c.depth) made.purpose) made.made made.outer made.text made.left s after (nothing made.left none)
      ∙ ap (λ (q : Purpose). used (evaluate c.depth) q made.made s after) loads

-- an operand is the value that its steps make by themselves
pub operand-value : (c : Calculation) (s : State) (pieces : List Piece) (v : List ℕ) → Makes s (operand_steps pieces) v → (k : Then)
    → instructing c (code.Push pieces) s k ≡ calculating (record c { values = v ∷ c.values; passed = 0 }) s k
unfolding run host
operand-value c s pieces v h k =
    let then : List ℕ → State → Play Ending = λ u t. calculating_with (record c { passed = 0 }) u t k in
    sym (operand-loaded (evaluate c.depth) pieces s k then) ∙ h c.depth (used (evaluate c.depth) Load) (if_done then k)

-- an instruction has ended an expression, or has come to an operand
module _ (s : State) (first now last : Calculation) (same : (k : Then) → calculating now s k ≡ calculating first s k) (fewer : length now.left ≤ length first.left)
    (i : Instruction) (left : List Instruction) (e : now.left ≡ i ∷ left) (z : now.passed ≤ 0) where
  instructs-now : (k : Then) → calculating first s k ≡ instructing (record now { left = left }) i s k
  instructs-now k = sym (same k) ∙ run-now (evaluate now.depth) k now.values left s now.passed now.left i e z

  pub instructs-computes : (c : Computed) → Instructs i s (record now { left = left }) last (Some c) → Computes s first last c
  instructs-computes (Value v) h = λ k. instructs-now k ∙ h k
  instructs-computes (Whole z) h = λ k. instructs-now k ∙ h k
  instructs-computes (Failed m) h = λ k. instructs-now k ∙ h k
  instructs-computes (Operand making) h =
      let count = ap length e in
      let kept = ap length h.3 in
      ((λ k. instructs-now k ∙ h.0 k), h.1, h.2, omega (arith, count, kept, fewer))

-- one operator between two operands that make values by themselves
module _ (c : Calculation) (s : State) (a b : List Piece) (op : Infix) (x y : List ℕ) (e : c.left ≡ code.Push a ∷ code.Push b ∷ code.Apply op ∷ []) (z : c.passed ≤ 0)
    (l : Makes s (operand_steps a) x) (r : Makes s (operand_steps b) y) (k : Then) where
  both-made : calculating c s k ≡ run (host (evaluate c.depth) k) (y ∷ x ∷ c.values) 0 (code.Apply op ∷ []) s (k Done)
  both-made =
      run-now (evaluate c.depth) k c.values (code.Push b ∷ code.Apply op ∷ []) s c.passed c.left (code.Push a) e z
      ∙ operand-value (record c { left = code.Push b ∷ code.Apply op ∷ [] }) s a x l k
      ∙ operand-value (record c { values = x ∷ c.values; passed = 0; left = code.Apply op ∷ [] }) s b y r k

  pub between-value : (v : List ℕ) → Ok v ≡ or_fault (value_of op x y) x y → calculating c s k ≡ k Done v s
  between-value v h = both-made ∙ two-value (evaluate c.depth) k (y ∷ x ∷ c.values) [] s op v h ∙ run-none (evaluate c.depth) k (v ∷ c.values) [] s 0 [] refl

  pub between-fault : (m : List ℕ) → Err m ≡ or_fault (value_of op x y) x y → calculating c s k ≡ fail m s k
  between-fault m h = both-made ∙ two-fault (evaluate c.depth) k (y ∷ x ∷ c.values) [] s op m h
