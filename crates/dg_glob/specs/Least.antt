-- The least and the greatest number that pass a test.
use Rattle.std.specs.Prelude.{ℕ, zero, suc, Bool, Option, None, Some, if◌then◌else◌}

-- the least number below n that passes a test
abbrev pub least_below : (ℕ → Bool) → ℕ → Option ℕ
least_below p zero = None
least_below p (suc n) = elim (least_below p n) as (λ _. Option ℕ) [ None ↦ if p n then Some n else None | Some k ↦ Some k ]

-- the greatest number below n that passes a test
abbrev pub greatest_below : (ℕ → Bool) → ℕ → Option ℕ
greatest_below p zero = None
greatest_below p (suc n) = if p n then Some n else greatest_below p n
