use Rattle.std.proofs.Common.{◌<◌, ◌^◌, arith}
use Rattle.dg_expr.proofs.Plain.{all_read, few_below}
use Rattle.dg_expr.proofs.whole.few_digits.Goals as goal

pub overflow_mul-value : goal.overflow_mul-value
overflow_mul-value c =
    let low : c.loop-byte.value < 10 ^ 18 = few_below c.loop-byte.value c.loop-byte.byte-index c.loop-byte.invariant.below (omega arith) in
    omega arith

pub overflow_add-value : goal.overflow_add-value
overflow_add-value c =
    let low : c.loop-byte.value < 10 ^ 18 = few_below c.loop-byte.value c.loop-byte.byte-index c.loop-byte.invariant.below (omega arith) in
    omega arith

pub returns : goal.returns
returns c =
    let low : c.loop-byte.value < 10 ^ 18 = few_below c.loop-byte.value c.loop-byte.byte-index c.loop-byte.invariant.below (omega arith) in (
      all_read c.loop-byte.value c.loop-byte.byte-index c.args.text.now c.loop-byte.invariant.read (omega arith) c.if-is_empty.ensures,
      omega arith,
    )
