use Rattle.std.proofs.Common.{◌∙◌, rules, sym, ap₂, arith, nat_eq}
use Rattle.std.specs.Cmp.Lexicographic.{pointwise}
use Rattle.dg_bytes.proofs.Orders.{same_behind_fronts}
use Rattle.dg_bytes.proofs.order.is_same.Goals as goal

-- the fronts are the same
pub returns-then-front-other_front : goal.returns-then-front-other_front
returns-then-front-other_front c =
    let one = c.split_front-front.ensures in
    let other = c.split_front-other_front.ensures in
    c.is_same_near-then-front-other_front.ensures ∙ ap₂ (pointwise nat_eq) one.behind other.behind
    ∙ sym (same_behind_fronts c.args.one.now c.args.other.now (omega arith) (omega arith) (search rules) (search rules) (sym one.front ∙ c.if-front-other_front.true ∙ other.front))
