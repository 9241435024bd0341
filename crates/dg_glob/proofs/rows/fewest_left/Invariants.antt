use Rattle.std.proofs.Common.{ℕ, ◌≤◌, ◌<◌, ◌-◌, ◌∷◌}
use Rattle.dg_glob.specs.Rows.{FewLeft}
use Rattle.dg_glob.proofs.rows.fewest_left.Given as goal

abbrev pub invariant-loop-low : goal.invariant-loop-low
invariant-loop-low l = record {
  cap : l.high ≤ l.most;
  found : FewLeft l.high (42 ∷ l.pattern) l.text;
  none : (k : ℕ) → k < l.low → FewLeft k (42 ∷ l.pattern) l.text → ⊥;
}

abbrev pub decreases-loop-low : goal.decreases-loop-low
decreases-loop-low l = l.high - l.low
