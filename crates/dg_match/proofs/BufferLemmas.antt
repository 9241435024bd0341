-- The bytes of a chunk without nulls.
use Rattle.std.proofs.Common.{◌≡◌, ℕ, suc, ◌≤◌, ◌<◌, Bool, true, false, cond, ◌==◌, not, List, [], ◌∷◌, length, get_or, refl, ap, arith}
use Rattle.dg_match.specs.Held.{without_nulls}

-- at the first byte
first_stays : (x : ℕ) (xs ys : List ℕ) (b : Bool) → (b ≡ true → ⊥) → xs ≡ ys → cond (not b) (x ∷ xs) xs ≡ x ∷ ys
first_stays x xs ys true h e = absurd (h refl)
first_stays x xs ys false h e = ap (λ r. x ∷ r) e

-- a chunk without nulls stays as it is
pub no_nulls : (xs : List ℕ) → ((k : ℕ) → 0 ≤ k → k < length xs → (get_or xs k 0 == 0) ≡ true → ⊥) → without_nulls xs ≡ xs
no_nulls [] h = refl
no_nulls (x ∷ xs) h = first_stays x (without_nulls xs) xs (x == 0) (h 0 (omega arith) (omega arith)) (no_nulls xs (λ k a b. h (suc k) (omega arith) (omega arith)))
