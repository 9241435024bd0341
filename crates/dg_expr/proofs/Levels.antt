-- Levels of operators and of phrases.
use Rattle.std.proofs.Common.{◌≡◌, ℕ, zero, suc, ◌≤◌, ◌<◌, List, arith, sym, subst}
use Rattle.std.proofs.Math.Nat.{eq-or-lt_of_le}
use Rattle.std.specs.Prelude.{◌⊎◌}
use Rattle.std.proofs.Common.{inl, inr}
use Rattle.dg_expr.specs.declared.operator.Infix.{Infix}
use Rattle.dg_expr.specs.declared.operator.Infix.TheVariants as between
use Rattle.dg_expr.specs.declared.token.Token.{Token}
use Rattle.dg_expr.specs.Grammar.{Phrase, tighter, level_of}
use Rattle.dg_expr.specs.Tree.{Tree}

pub level-le : (op : Infix) → level_of op ≤ 12
level-le between.Times = omega arith
level-le between.Over = omega arith
level-le between.Remainder = omega arith
level-le between.Plus = omega arith
level-le between.Minus = omega arith
level-le between.ShiftLeft = omega arith
level-le between.ShiftRight = omega arith
level-le between.Less = omega arith
level-le between.Greater = omega arith
level-le between.LessOrEqual = omega arith
level-le between.GreaterOrEqual = omega arith
level-le between.Equal = omega arith
level-le between.NotEqual = omega arith
level-le between.SameText = omega arith
level-le between.OtherText = omega arith
level-le between.In = omega arith
level-le between.NotIn = omega arith
level-le between.BitAnd = omega arith
level-le between.BitXor = omega arith
level-le between.BitOr = omega arith
level-le between.And = omega arith
level-le between.Or = omega arith

pub level-positive : (op : Infix) → 1 ≤ level_of op
level-positive between.Times = omega arith
level-positive between.Over = omega arith
level-positive between.Remainder = omega arith
level-positive between.Plus = omega arith
level-positive between.Minus = omega arith
level-positive between.ShiftLeft = omega arith
level-positive between.ShiftRight = omega arith
level-positive between.Less = omega arith
level-positive between.Greater = omega arith
level-positive between.LessOrEqual = omega arith
level-positive between.GreaterOrEqual = omega arith
level-positive between.Equal = omega arith
level-positive between.NotEqual = omega arith
level-positive between.SameText = omega arith
level-positive between.OtherText = omega arith
level-positive between.In = omega arith
level-positive between.NotIn = omega arith
level-positive between.BitAnd = omega arith
level-positive between.BitXor = omega arith
level-positive between.BitOr = omega arith
level-positive between.And = omega arith
level-positive between.Or = omega arith

-- a phrase is one of each looser level
pub loosen : (j n : ℕ) (ts : List Token) (a : Tree) → n ≤ j → Phrase j ts a → Phrase n ts a
loosen zero n ts a h p = let e : zero ≡ n = omega arith in let P : ℕ → Type 0 = λ k. Phrase k ts a in subst P e p
loosen (suc j) n ts a h p =
    let c : (n ≡ suc j) ⊎ (n < suc j) = eq-or-lt_of_le h in
    elim c [ inl e ↦ (let P : ℕ → Type 0 = λ k. Phrase k ts a in subst P (sym e) p) | inr l ↦ loosen j n ts a (omega arith) (tighter j ts a p) ]
