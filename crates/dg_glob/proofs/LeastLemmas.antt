-- When a number is the least or the greatest below another that passes a test.
use Rattle.std.proofs.Common.{◌≡◌, ℕ, zero, suc, ◌<◌, Bool, true, false, Option, None, Some, refl, sym, ap, ◌∙◌, inl, inr, cond, arith}
use Rattle.std.proofs.lemmas.Bool.{cond-true, cond-false, cases_eq}
use Rattle.dg_glob.specs.Least.{least_below, greatest_below}

module _ (p : ℕ → Bool) where
  abbrev least_step : ℕ → Option ℕ → Option ℕ
  least_step n None = cond (p n) (Some n) None
  least_step n (Some k) = Some k

  pub least-none : (n : ℕ) → ((k : ℕ) → k < n → p k ≡ false) → least_below p n ≡ None
  least-none zero h = refl
  least-none (suc n) h = ap (least_step n) (least-none n (λ k l. h k (omega arith))) ∙ cond-false _ _ _ (h n (omega arith))

  pub least-some : (n k : ℕ) → k < n → p k ≡ true → ((j : ℕ) → j < k → p j ≡ false) → least_below p n ≡ Some k
  least-some zero k l t h = absurd (omega arith)
  least-some (suc n) k l t h =
      elim (cases_eq k n) [
        | inl same ↦ ap (least_step n) (least-none n (λ j b. h j (omega arith))) ∙ last_one n k same t
        | inr other ↦ ap (least_step n) (least-some n k (omega arith) t h)
      ]
    where
      last_one : (n k : ℕ) → k ≡ n → p k ≡ true → least_step n None ≡ Some k
      last_one n k same t = cond-true _ _ _ (ap p (sym same) ∙ t) ∙ ap (λ (m : ℕ). Some m) (sym same)

  pub greatest-none : (n : ℕ) → ((k : ℕ) → k < n → p k ≡ false) → greatest_below p n ≡ None
  greatest-none zero h = refl
  greatest-none (suc n) h = cond-false _ _ _ (h n (omega arith)) ∙ greatest-none n (λ k l. h k (omega arith))

  pub greatest-some : (n k : ℕ) → k < n → p k ≡ true → ((j : ℕ) → k < j → j < n → p j ≡ false) → greatest_below p n ≡ Some k
  greatest-some zero k l t h = absurd (omega arith)
  greatest-some (suc n) k l t h =
      elim (cases_eq k n) [
        | inl same ↦ cond-true _ _ _ (ap p (sym same) ∙ t) ∙ ap (λ (m : ℕ). Some m) (sym same)
        | inr other ↦ cond-false _ _ _ (h n (omega arith) (omega arith)) ∙ greatest-some n k (omega arith) t (λ j a b. h j a (omega arith))
      ]
