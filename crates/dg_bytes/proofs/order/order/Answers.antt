use Rattle.std.proofs.Common.{◌∙◌, rules, sym, ap₂, arith}
use Rattle.std.specs.Ordering.{nat_cmp}
use Rattle.std.specs.Cmp.Lexicographic.{slice_cmp}
use Rattle.dg_bytes.proofs.Orders.{by_fronts, behind_fronts}
use Rattle.dg_bytes.proofs.order.order.Goals as goal

-- the fronts differ
pub returns-then-front-other_front : goal.returns-then-front-other_front
returns-then-front-other_front c =
    let one = c.split_front-front.ensures.front in
    let other = c.split_front-other_front.ensures.front in
    c.cmp.ensures ∙ ap₂ nat_cmp one other
    ∙ sym (by_fronts c.args.one.now c.args.other.now (omega arith) (omega arith) (search rules) (search rules) (λ e. c.if-front-other_front.true (one ∙ e ∙ sym other)))

-- the fronts are the same
pub returns : goal.returns
returns c =
    let one = c.split_front-front.ensures in
    let other = c.split_front-other_front.ensures in
    c.order_near-2.ensures ∙ ap₂ (slice_cmp nat_cmp) one.behind other.behind
    ∙ sym (behind_fronts c.args.one.now c.args.other.now (omega arith) (omega arith) (search rules) (search rules) (sym one.front ∙ c.if-front-other_front.false ∙ other.front))
