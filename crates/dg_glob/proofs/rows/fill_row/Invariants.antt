use Rattle.std.proofs.Common.{ℕ, true, ◌≡◌, ◌≤◌, ◌↔◌}
use Rattle.dg_glob.specs.Marks.{marked}
use Rattle.dg_glob.specs.Rows.{FewLeft, last}
use Rattle.dg_glob.proofs.rows.fill_row.Given as goal

abbrev pub invariant-loop-place : goal.invariant-loop-place
invariant-loop-place l = (n : ℕ) → n ≤ l.place → (marked l.row n ≡ true) ↔ FewLeft l.limit (last n l.pattern) l.text
