use Rattle.std.specs.Prelude.{◌≡◌, nat_eq, drop}
use Rattle.std.specs.Cmp.Lexicographic.{pointwise}
use Rattle.dg_bytes.proofs.order.is_same_near.Given as goal

abbrev pub invariant-loop-at : goal.invariant-loop-at
invariant-loop-at l = pointwise nat_eq (drop l.at l.one) (drop l.at l.other) ≡ pointwise nat_eq l.one l.other
