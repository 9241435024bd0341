-- Expressions of whole numbers, an instruction at a time.
use Rattle.std.proofs.Common.{◌≡◌, ℕ, ◌+◌, ◌^◌, ◌<◌, ℤ, List, [], ◌∷◌, ◌++◌, ap, sym, ◌∙◌, refl, subst, drop, length, zero, suc, arith}
use Rattle.std.specs.Prelude.{Option, None, Some, Ok, IfSome, slice_index_or}
use lib.Signed.{mag}
use Rattle.dg_words.specs.Piece.{Piece}
use Rattle.dg_expr.specs.Code.{run}
use Rattle.dg_expr.specs.Number.{number_of, decimal_text}
use Rattle.dg_expr.specs.Operator.{Value, value_of}
use Rattle.dg_expr.specs.declared.code.Instruction.{Instruction}
use Rattle.dg_expr.specs.declared.code.Instruction.TheVariants as code
use Rattle.dg_expr.specs.declared.operator.Infix.{Infix}
use Rattle.dg_language.specs.declared.code.Code.TheVariants.{Done}
use Rattle.dg_language.specs.declared.substitution.Substitution.{Substitution}
use Rattle.dg_language.specs.State.{State}
use Rattle.dg_language.specs.Evaluation.{Then}
use Rattle.dg_language.specs.Expressions.{host, or_fault}
use Rattle.dg_language.specs.WordSteps.{operand_steps}
use Rattle.dg_language.specs.Language.{evaluate}
use Rattle.dg_expr.specs.Arithmetic.{GivesWhole}
use Rattle.dg_compiled.specs.Texts.{Makes}
use Rattle.dg_compiled.specs.Wholes.{AreNumbers, MakesWhole, Combines, LeadsTo, Advances, Waits, ComesToWhole}
use Rattle.dg_compiled.proofs.ComputingLemmas.{operand-value}
use Rattle.dg_expr.proofs.Decimals.{number_of-decimal}
use Rattle.dg_compiled.proofs.ExpressionLemmas.{two-value, run-none}

-- an operand is put on top
pub pushed : (s : State) (pieces : List Piece) (steps : List Substitution) (old new : List ℤ) (n : ℤ) → steps ≡ operand_steps pieces → MakesWhole s steps n → new ≡ n ∷ old
    → Advances s (code.Push pieces) old new
unfolding Advances
pushed s pieces steps old new n e m is before are =
    let made : Makes s (operand_steps pieces) m.0 = subst (λ xs. Makes s xs m.0) e m.1.0 in (
      m.0 ∷ before,
      (
        subst (AreNumbers (m.0 ∷ before)) (sym is) (m.1.1, are),
        λ left depth k below.
            operand-value (record { values = before ++ below; passed = 0; left = left; depth = depth }) s pieces m.0 made k,
      ),
    )

-- what an operator gives two values that are numbers
given : (op : Infix) (x y z : ℤ) (a b : List ℕ) → GivesWhole op x y z → number_of a ≡ Some x → number_of b ≡ Some y → Ok (decimal_text z) ≡ or_fault (value_of op a b) a b
given op x y z a b g e f = sym (ap (λ (r : Value). or_fault r a b) (g a b e f))

two-on-top : (s : State) (op : Infix) (new : List ℤ) (x y z : ℤ) → GivesWhole op x y z → mag z < 2 ^ 63 → (before : List (List ℕ)) → AreNumbers before (y ∷ x ∷ new)
    → (after : List (List ℕ)) × (AreNumbers after (z ∷ new) × ((left : List Instruction) → LeadsTo s before (code.Apply op ∷ left) after left))
two-on-top s op new x y z g small [] are = absurd are
two-on-top s op new x y z g small (b ∷ []) are = absurd are.1
two-on-top s op new x y z g small (b ∷ a ∷ vs) are = (
  decimal_text z ∷ vs,
  (
    (number_of-decimal z small, are.1.1),
    λ left depth k below.
        two-value (evaluate depth) k (b ∷ a ∷ (vs ++ below)) left s op (decimal_text z) (given op x y z a b g are.1.0 are.0),
  ),
)

-- an operator's number takes the place of the two on top
pub applied : (s : State) (op : Infix) (old rest new : List ℤ) (z : ℤ) → mag z < 2 ^ 63 → Combines op old rest z → new ≡ z ∷ rest → Advances s (code.Apply op) old new
unfolding Advances
applied s op old rest new z small c is before are =
    let on : (after : List (List ℕ)) × (AreNumbers after (z ∷ rest) × ((left : List Instruction) → LeadsTo s before (code.Apply op ∷ left) after left)) =
    two-on-top s op rest c.0 c.1.0 z c.1.1.1 small before (subst (AreNumbers before) c.1.1.0 are) in
    (on.0, (subst (AreNumbers on.0) (sym is) on.1.0, on.1.1))

-- the last operator ends it
last-two : (s : State) (op : Infix) (rest : List ℤ) (x y z : ℤ) → GivesWhole op x y z → (after : List (List ℕ)) → AreNumbers after (y ∷ x ∷ rest) → (depth : ℕ) (k : Then) (below : List (List ℕ))
    → run (host (evaluate depth) k) (after ++ below) 0 (code.Apply op ∷ []) s (k Done) ≡ k Done (decimal_text z) s
last-two s op rest x y z g [] are depth k below = absurd are
last-two s op rest x y z g (b ∷ []) are depth k below = absurd are.1
last-two s op rest x y z g (b ∷ a ∷ vs) are depth k below =
    two-value (evaluate depth) k (b ∷ a ∷ (vs ++ below)) [] s op (decimal_text z) (given op x y z a b g are.1.0 are.0)
    ∙ run-none (evaluate depth) k (decimal_text z ∷ (vs ++ below)) [] s 0 [] refl

ended : (s : State) (all left : List Instruction) (op : Infix) (old rest : List ℤ) (z : ℤ) → Waits s all left old → left ≡ code.Apply op ∷ [] → Combines op old rest z → ComesToWhole s all z
unfolding Waits ComesToWhole
ended s all left op old rest z w e c depth k below =
    w.1.1 depth k below
    ∙ ap (λ xs. run (host (evaluate depth) k) (w.0 ++ below) 0 xs s (k Done)) e
    ∙ last-two s op rest c.0 c.1.0 z c.1.1.1 w.0 (subst (AreNumbers w.0) c.1.1.0 w.1.0) depth k below

pub ended-as : (s : State) (all left : List Instruction) (op : Infix) (old rest : List ℤ) (o : Option ℤ) → Waits s all left old → left ≡ code.Apply op ∷ []
    → IfSome o (Combines op old rest) → IfSome o (ComesToWhole s all)
ended-as s all left op old rest None w e c = c
ended-as s all left op old rest (Some z) w e c = ended s all left op old rest z w e c

-- one more instruction is done
pub advanced : (s : State) (all left after : List Instruction) (i : Instruction) (old new : List ℤ) → Waits s all left old → left ≡ i ∷ after → Advances s i old new → Waits s all after new
unfolding Advances Waits
advanced s all left after i old new w e a =
    let on = a w.0 w.1.0 in (
      on.0,
      (
        on.1.0,
        λ depth k below.
            w.1.1 depth k below
            ∙ ap (λ xs. run (host (evaluate depth) k) (w.0 ++ below) 0 xs s (k Done)) e
            ∙ on.1.1 after depth k below,
      ),
    )

-- nothing waits at first
pub begun : (s : State) (all : List Instruction) → Waits s all all []
unfolding Waits
begun s all = ([], (tt, λ depth k below. refl))

-- the instruction at a place
pub one-at : (xs : List Instruction) (at : ℕ) (x : Instruction) (end : List Instruction) → at < length xs → x ≡ slice_index_or xs at x
    → drop at (xs ++ end) ≡ x ∷ drop (at + 1) (xs ++ end)
one-at [] at x end l e = absurd (omega (arith, l))
one-at (y ∷ ys) zero x end l e = ap (λ u. u ∷ (ys ++ end)) (sym e)
one-at (y ∷ ys) (suc n) x end l e =
    let one : suc n + 1 ≡ suc (n + 1) = omega arith in
    rw one (one-at ys n x end (omega (arith, l)) e)

-- behind all but the last
pub at-end : (xs end : List Instruction) (at : ℕ) → at ≡ length xs → drop at (xs ++ end) ≡ end
at-end [] end zero e = refl
at-end [] end (suc n) e = absurd (omega (arith, e))
at-end (x ∷ xs) end zero e = absurd (omega (arith, e))
at-end (x ∷ xs) end (suc n) e = at-end xs end n (omega (arith, e))
