use Rattle.std.proofs.Common.{arith, get_or, refl}
use Rattle.std.specs.Char.{digit_value}
use Rattle.dg_expr.proofs.Digits.{past_digit}
use Rattle.dg_expr.proofs.whole.digits.Goals as goal

pub returns-in_err-checked_mul : goal.returns-in_err-checked_mul
returns-in_err-checked_mul c =
    let a = rw c.from.ensures at c.in_err-checked_mul.ensures in
    past_digit c.args.base c.loop-rest.value (digit_value (get_or c.loop-rest.rest.now 0 0)) c.loop-rest.rest.now _ _ c.requires.low c.in-len1-up.len_at_least refl
    (omega (arith, a)) c.loop-rest.invariant c.from_residual-in_err-checked_mul.ensures

pub returns-in_err-value : goal.returns-in_err-value
returns-in_err-value c =
    let a = c.in_err-value.ensures in
    let m = rw c.from.ensures at c.in_ok-checked_mul.ensures in
    past_digit c.args.base c.loop-rest.value c.in_ok-digit.digit c.loop-rest.rest.now _ _ c.requires.low c.in-len1-up.len_at_least c.in_ok-digit.ensures.value.1
    (omega (arith, a, m, c.from-in-len1-up.ensures)) c.loop-rest.invariant c.from_residual-in_err-value.ensures
