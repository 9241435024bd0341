use Rattle.std.proofs.Common.{◌≡◌, ◌∙◌, ◌<◌, ◌-◌, Some, None, arith, ap, sym, subst}
use Rattle.std.specs.Prelude.{is_some, nat_eq}
use Rattle.std.specs.Map.{lookup}
use Rattle.std.specs.Cmp.Lexicographic.{pointwise}
use Rattle.dg_contents.specs.Contents.{HasOneFewer, KeepsHeldNumbers}
use Rattle.dg_contents.proofs.ContentsLemmas.{count, keeps-again, keeps-held, numbering-again, numbering-without, one-fewer, set-same, shown, updated-along}
use Rattle.dg_contents.proofs.contents.Contents.release.Goals as goal

pub invariant_of-self-in-Some-with_one_fewer : goal.invariant_of-self-in-Some-with_one_fewer
invariant_of-self-in-Some-with_one_fewer c =
    let h = c.in-Some-with_one_fewer.left in
    let u = ((c.get_mut.follows.holds h).3 (sym (ap is_some c.in-Some.ensures.value))).0 in
    let is = c.in-Some-with_one_fewer.ensures.left.0 in
    let more = c.in-Some-with_one_fewer.ensures.left.1 in
    let some : 0 < h.holders = subst (λ x. 0 < x.holders) (sym is) (omega (arith, more)) in
    numbering-again c.self.inside.held.entries (c.get_mut.follows.lender h).entries c.args.content.now h u c.self.inside.next c.in-Some.holding.now (sym c.in-Some.ensures.value) (ap (λ x. x.number) is) some c.self.invariant

pub invariant_of-self-in-None : goal.invariant_of-self-in-None
invariant_of-self-in-None c =
    let old = c.self.inside.held.entries in
    let t = c.args.content.now in
    let h = c.in-Some.holding.now in
    let unchanged = (c.get_mut.follows.holds h).0 ∙ set-same (pointwise nat_eq t) old h (sym c.in-Some.ensures.value) in
    let u = updated-along old (c.get_mut.follows.lender h).entries c.swap_remove.new.self.entries t None unchanged c.swap_remove.ensures.updates.0 in
    numbering-without old c.swap_remove.new.self.entries t c.self.inside.next u c.self.invariant

pub returns-in-Some-with_one_fewer-clause-fewer : goal.returns-in-Some-with_one_fewer-clause-fewer
returns-in-Some-with_one_fewer-clause-fewer c =
    let old = c.self.inside.held.entries in
    let t = c.args.content.now in
    let h = c.in-Some-with_one_fewer.left in
    let u = ((c.get_mut.follows.holds h).3 (sym (ap is_some c.in-Some.ensures.value))).0 in
    let n = c.self.inside.next in
    subst (λ v. HasOneFewer t v (shown (c.get_mut.follows.lender h).entries n)) c.self.view_is
    (one-fewer old (c.get_mut.follows.lender h).entries t (Some h) u n n (ap (λ x. x.holders) c.in-Some-with_one_fewer.ensures.left.0 ∙ ap (λ o. count o - 1) c.in-Some.ensures.value))

pub returns-in-Some-with_one_fewer-clause-stays : goal.returns-in-Some-with_one_fewer-clause-stays
returns-in-Some-with_one_fewer-clause-stays c =
    let h = c.in-Some-with_one_fewer.left in
    let u = ((c.get_mut.follows.holds h).3 (sym (ap is_some c.in-Some.ensures.value))).0 in
    let n = c.self.inside.next in
    let keeps = keeps-again c.self.inside.held.entries (c.get_mut.follows.lender h).entries c.args.content.now h u n n c.in-Some.holding.now (sym c.in-Some.ensures.value) (ap (λ x. x.number) c.in-Some-with_one_fewer.ensures.left.0) in
    subst (λ v. KeepsHeldNumbers v (shown (c.get_mut.follows.lender h).entries n)) c.self.view_is (λ q k e _. keeps q k e)

pub returns-in-None-clause-fewer : goal.returns-in-None-clause-fewer
returns-in-None-clause-fewer c =
    let old = c.self.inside.held.entries in
    let t = c.args.content.now in
    let h = c.in-Some.holding.now in
    let unchanged = (c.get_mut.follows.holds h).0 ∙ set-same (pointwise nat_eq t) old h (sym c.in-Some.ensures.value) in
    let u = updated-along old (c.get_mut.follows.lender h).entries c.swap_remove.new.self.entries t None unchanged c.swap_remove.ensures.updates.0 in
    let n = c.self.inside.next in
    let had : h.holders ≡ count (lookup (pointwise nat_eq t) old) = ap count c.in-Some.ensures.value in
    subst (λ v. HasOneFewer t v (shown c.swap_remove.new.self.entries n)) c.self.view_is
    (one-fewer old c.swap_remove.new.self.entries t None u n n (omega (arith, had, c.in-None.ensures.none)))

pub returns-in-None-clause-stays : goal.returns-in-None-clause-stays
returns-in-None-clause-stays c =
    let old = c.self.inside.held.entries in
    let t = c.args.content.now in
    let h = c.in-Some.holding.now in
    let unchanged = (c.get_mut.follows.holds h).0 ∙ set-same (pointwise nat_eq t) old h (sym c.in-Some.ensures.value) in
    let u = updated-along old (c.get_mut.follows.lender h).entries c.swap_remove.new.self.entries t None unchanged c.swap_remove.ensures.updates.0 in
    let n = c.self.inside.next in
    subst (λ v. KeepsHeldNumbers v (shown c.swap_remove.new.self.entries n)) c.self.view_is (keeps-held old c.swap_remove.new.self.entries t n n u)

pub returns-in-Some-with_one_fewer-clause-numbering : goal.returns-in-Some-with_one_fewer-clause-numbering
returns-in-Some-with_one_fewer-clause-numbering c =
    let h = c.in-Some-with_one_fewer.left in
    let u = ((c.get_mut.follows.holds h).3 (sym (ap is_some c.in-Some.ensures.value))).0 in
    let is = c.in-Some-with_one_fewer.ensures.left.0 in
    let more = c.in-Some-with_one_fewer.ensures.left.1 in
    let some : 0 < h.holders = subst (λ x. 0 < x.holders) (sym is) (omega (arith, more)) in
    numbering-again c.self.inside.held.entries (c.get_mut.follows.lender h).entries c.args.content.now h u c.self.inside.next c.in-Some.holding.now (sym c.in-Some.ensures.value) (ap (λ x. x.number) is) some c.self.invariant
