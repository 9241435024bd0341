-- Shifts by 64 and more.
use Rattle.std.proofs.Common.{◌≡◌, ◌≢◌, ℕ, zero, suc, ◌≤◌, ◌<◌, ◌*◌, ◌/◌, ◌^◌, ℤ, pos, negsuc, neg_ℤ, false, ◌<ℤ◌, ◌≤ℤ◌, Err, refl, arith}
use Rattle.std.specs.Prelude.{FitsSigned, nat_lt}
use Rattle.std.specs.Int.{w64}
use Rattle.std.proofs.lemmas.Int.{ints}
use Rattle.std.proofs.lemmas.Bool.{le-ltb}
use Rattle.std.proofs.Math.Nat.{div-eq_of_lt, pow-le-pow_right, mul-le-mul_right, zero-lt-suc}
use Rattle.dg_expr.specs.declared.fault.ExprFault.TheVariants.{TooLarge}
use Rattle.dg_expr.specs.Operator.{number_value, shifted_left, shifted_right}

power_at_least : (n : ℕ) → 64 ≤ n → 2 ^ 64 ≤ 2 ^ n
power_at_least n h = pow-le-pow_right {n = 2} (zero-lt-suc 1) h

product_at_least : (a n : ℕ) → 64 ≤ n → 2 ^ 64 ≤ suc a * 2 ^ n
product_at_least a n h =
    let p : 2 ^ 64 ≤ 2 ^ n = power_at_least n h in
    let q : 1 * 2 ^ n ≤ suc a * 2 ^ n = mul-le-mul_right (2 ^ n) (omega arith) in
    omega arith

too_large : (k : ℕ) → 2 ^ 64 ≤ k → number_value (pos k) ≡ Err TooLarge
too_large k h = let e : nat_lt k (2 ^ 63) ≡ false = le-ltb k (2 ^ 63) (omega arith) in rw e refl

too_small : (k : ℕ) → 2 ^ 64 ≤ k → number_value (neg_ℤ (pos k)) ≡ Err TooLarge
too_small zero h = absurd (omega arith)
too_small (suc m) h = let e : nat_lt m (2 ^ 63) ≡ false = le-ltb m (2 ^ 63) (omega arith) in rw e refl

-- a number that isn't 0 is too large
pub too_far : (x count : ℤ) → x ≢ pos 0 → pos 64 ≤ℤ count → shifted_left x count ≡ Err TooLarge
too_far x (negsuc n) h k = absurd (omega (arith, ints))
too_far (pos zero) (pos n) h k = absurd (h refl)
too_far (pos (suc a)) (pos n) h k = too_large (suc a * 2 ^ n) (product_at_least a n (omega (arith, ints)))
too_far (negsuc a) (pos n) h k = too_small (suc a * 2 ^ n) (product_at_least a n (omega (arith, ints)))

past : (a n : ℕ) → a < 2 ^ 63 → 64 ≤ n → a / 2 ^ n ≡ 0
past a n h k = let p : 2 ^ 64 ≤ 2 ^ n = power_at_least n k in div-eq_of_lt (omega arith)

-- nothing is left but the sign
pub all_shifted : (x count : ℤ) → FitsSigned w64 x → pos 0 ≤ℤ x → pos 64 ≤ℤ count → shifted_right x count ≡ number_value (pos 0)
all_shifted x (negsuc n) f h k = absurd (omega (arith, ints))
all_shifted (negsuc a) (pos n) f h k = absurd (omega (arith, ints))
all_shifted (pos a) (pos n) f h k = let e : a / 2 ^ n ≡ 0 = past a n f.sfits (omega (arith, ints)) in rw e refl

pub sign_shifted : (x count : ℤ) → FitsSigned w64 x → x <ℤ pos 0 → pos 64 ≤ℤ count → shifted_right x count ≡ number_value (negsuc 0)
sign_shifted x (negsuc n) f h k = absurd (omega (arith, ints))
sign_shifted (pos a) (pos n) f h k = absurd (omega (arith, ints))
sign_shifted (negsuc a) (pos n) f h k = let e : a / 2 ^ n ≡ 0 = past a n f.sfits (omega (arith, ints)) in rw e refl

pub ruleset shifts = (too_far, all_shifted, sign_shifted)
