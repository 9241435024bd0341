use Rattle.std.specs.Prelude.{◌≡◌, drop}
use Rattle.std.specs.Ordering.{nat_cmp}
use Rattle.std.specs.Cmp.Lexicographic.{slice_cmp}
use Rattle.dg_bytes.proofs.order.order_near.Given as goal

abbrev pub invariant-loop-at : goal.invariant-loop-at
invariant-loop-at l = slice_cmp nat_cmp (drop l.at l.one) (drop l.at l.other) ≡ slice_cmp nat_cmp l.one l.other
