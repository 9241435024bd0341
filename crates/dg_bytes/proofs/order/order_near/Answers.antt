use Rattle.std.proofs.Common.{◌∙◌, sym, arith, length, drop}
use Rattle.std.proofs.lemmas.List.{length-drop}
use Rattle.dg_bytes.proofs.Orders.{by_lengths}
use Rattle.dg_bytes.proofs.order.order_near.Goals as goal

-- one text has no more bytes
pub returns-then-near-lt-NEAR : goal.returns-then-near-lt-NEAR
returns-then-near-lt-NEAR c =
    let one = c.args.one.now in
    let other = c.args.other.now in
    let at = c.loop-at.at in
    let left = length-drop at one in
    let later = length-drop at other in
    c.cmp-then-near-lt-NEAR.ensures
    ∙ sym (by_lengths (drop at one) (drop at other) (length one) (length other) at (omega (arith, left, later)) (omega (arith, left, later)) (omega (arith, left, later)))
    ∙ c.loop-at.invariant
