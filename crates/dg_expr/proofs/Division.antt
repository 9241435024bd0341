-- Division by a negative number.
use Rattle.std.proofs.Common.{◌≡◌, ℤ, pos, negsuc, neg_ℤ, ◌<ℤ◌, refl, arith}
use Rattle.std.proofs.lemmas.Int.{ints}
use Rattle.std.specs.Int.{int_rem_euclid}
use Rattle.dg_expr.specs.Operator.{remainder}

pub remainder-negative : (x y r : ℤ) → y <ℤ pos 0 → r ≡ int_rem_euclid (neg_ℤ x) (neg_ℤ y) → neg_ℤ r ≡ remainder x y
remainder-negative x (pos d) r h e = absurd (omega (arith, ints))
remainder-negative x (negsuc d) r h e = rw e refl
