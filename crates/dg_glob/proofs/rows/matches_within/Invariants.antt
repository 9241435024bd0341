use Rattle.std.proofs.Common.{true, ◌≡◌, ◌≤◌, ◌↔◌, ◌∷◌, length, drop}
use Rattle.dg_glob.specs.Rows.{FewLeft, IsRow}
use Rattle.dg_glob.proofs.rows.matches_within.Given as goal

abbrev pub invariant-loop-start : goal.invariant-loop-start
invariant-loop-start l = record {
  within : l.start ≤ length l.text;
  row : IsRow l.limit l.pattern (drop l.start l.text) l.row;
  found : (l.found ≡ true) ↔ FewLeft l.limit (42 ∷ l.pattern) (drop l.start l.text);
}

abbrev pub decreases-loop-start : goal.decreases-loop-start
decreases-loop-start l = l.start
