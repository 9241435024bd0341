-- Digits past 64 bits.
use Rattle.std.proofs.Common.{◌≡◌, ℕ, ◌+◌, ◌*◌, ◌^◌, ◌≤◌, List, [], ◌∷◌, length, get_or, true, false, Option, None, arith, subst, sym}
use Rattle.std.specs.Prelude.{nat_lt, if◌then◌else◌}
use Rattle.std.specs.Char.{digit_value}
use Rattle.std.proofs.Math.Nat.{mul-le-mul_right}
use Rattle.dg_expr.specs.Number.{digits_behind}
use Rattle.dg_expr.specs.Numbers.{IsPast, Reads}

grows : (base n d : ℕ) → 2 ≤ base → 2 ^ 64 ≤ n → 2 ^ 64 ≤ base * n + d
grows base n d low h = omega (arith, mul-le-mul_right n low)

-- more digits make it no smaller
pub digits_past : (base n : ℕ) (bs : List ℕ) → 2 ≤ base → 2 ^ 64 ≤ n → IsPast (digits_behind base n bs)
digits_past base n [] low h = h
digits_past base n (b ∷ bs) low h =
    elim (nat_lt (digit_value b) base) as (λ t. IsPast (if t then digits_behind base (base * n + digit_value b) bs else None))
    [ true ↦ digits_past base (base * n + digit_value b) bs low (grows base n (digit_value b) low h) | false ↦ tt ]

-- a digit that makes it too large
pub past_digit : (base value d : ℕ) (rest : List ℕ) (o r : Option ℕ) → 2 ≤ base → 1 ≤ length rest → d ≡ digit_value (get_or rest 0 0)
    → 2 ^ 64 ≤ base * value + d → digits_behind base value rest ≡ o → r ≡ None → Reads o r
past_digit base value d [] o r low h e m s n = absurd (omega arith)
past_digit base value d (b ∷ bs) o r low h e m s n =
    let p : IsPast (digits_behind base value (b ∷ bs)) =
    elim (nat_lt (digit_value b) base) as (λ t. IsPast (if t then digits_behind base (base * value + digit_value b) bs else None))
    [ true ↦ digits_past base (base * value + digit_value b) bs low (omega arith) | false ↦ tt ] in
    let P : Option ℕ → Type 0 = λ x. Reads o x in
    let Q : Option ℕ → Type 0 = IsPast in
    subst P (sym n) (subst Q s p)
