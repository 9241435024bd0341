use Rattle.std.proofs.Common.{◌≡◌, ◌-ℤ◌, pos, neg_ℤ, ◌<ℤ◌, to_z, of_z, arith, ◌∙◌}
use Rattle.std.proofs.lemmas.Int.{ints}
use Rattle.std.specs.Int.{w128}
use Rattle.dg_expr.proofs.Division.{remainder-negative}
use Rattle.dg_expr.proofs.value.remainder.Goals as goal

pub returns-else-y-gt0 : goal.returns-else-y-gt0
returns-else-y-gt0 c =
    let nx : to_z w128 (of_z w128 (pos 0 -ℤ to_z w128 (of_z w128 c.from-x.result))) ≡ neg_ℤ c.args.x = omega (arith, ints, c.from-x.ensures) in
    let ny : to_z w128 (of_z w128 (pos 0 -ℤ to_z w128 (of_z w128 c.from-y.result))) ≡ neg_ℤ c.args.y = omega (arith, ints, c.from-y.ensures) in
    let nr : to_z w128 (of_z w128 (pos 0 -ℤ to_z w128 (of_z w128 c.rem_euclid-else-y-gt0.result))) ≡ neg_ℤ c.rem_euclid-else-y-gt0.result =
    omega (arith, ints, c.rem_euclid-else-y-gt0.type_inv, c.rem_euclid-else-y-gt0.ensures.lower_bound) in
    let below : c.args.y <ℤ pos 0 = omega (arith, ints, c.requires, c.from-y.ensures, c.if-y-gt0.false) in
    let value = rw (nx, ny) at c.rem_euclid-else-y-gt0.ensures.value in
    nr ∙ remainder-negative c.args.x c.args.y c.rem_euclid-else-y-gt0.result below value
