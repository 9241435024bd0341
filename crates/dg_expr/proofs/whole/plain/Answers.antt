use Rattle.std.proofs.Common.{◌≡◌, ◌-ℤ◌, ◌∙◌, ap, sym, pos, neg_ℤ, to_z, of_z, w64, get_or, Some, arith}
use Rattle.std.proofs.lemmas.Int.{ints}
use Rattle.dg_expr.proofs.Plain.{plain_digits, plain_negative}
use Rattle.dg_expr.proofs.whole.plain.Goals as goal

pub returns-in_ok-plain_magnitude-in-45 : goal.returns-in_ok-plain_magnitude-in-45
returns-in_ok-plain_magnitude-in-45 c =
    let n = c.in_ok-plain_magnitude-in-45.field-0 in
    let minus : get_or c.args.text.now 0 0 ≡ 45 = omega arith in
    let value : to_z w64 (of_z w64 (pos 0 -ℤ to_z w64 n)) ≡ neg_ℤ (pos n) = omega (arith, ints, c.in_ok-plain_magnitude-in-45.ensures.2) in
    plain_negative c.args.text.now n minus c.in_ok-plain_magnitude-in-45.ensures ∙ ap Some (sym value)

pub returns-in_ok-plain_magnitude-in_default : goal.returns-in_ok-plain_magnitude-in_default
returns-in_ok-plain_magnitude-in_default c =
    let n = c.in_ok-plain_magnitude-in_default.field-0 in
    let value : to_z w64 n ≡ pos n = omega (arith, ints, c.in_ok-plain_magnitude-in_default.ensures.2) in
    plain_digits c.args.text.now n c.in_ok-plain_magnitude-in_default.ensures ∙ ap Some (sym value)
