use Rattle.std.proofs.Common.{◌∙◌, ◌<◌, ◌+◌, Some, arith, ap, sym, subst}
use Rattle.std.specs.Prelude.{is_some, nat_eq}
use Rattle.std.specs.Cmp.Lexicographic.{pointwise}
use Rattle.dg_contents.specs.Contents.{HasOneMore, KeepsNumbers}
use Rattle.dg_contents.proofs.ContentsLemmas.{count, keeps-again, numbering-again, on_err, one-more, set-same, shown}
use Rattle.dg_contents.proofs.contents.Contents.hold.Goals as goal

pub invariant_of-self : goal.invariant_of-self
invariant_of-self c =
    let unchanged = (c.get_mut.follows.holds c.in-Some.holding.now).0 ∙ set-same (pointwise nat_eq c.args.content.now) c.self.inside.held.entries c.in-Some.holding.now (sym c.in-Some.ensures.value) in
    rw unchanged c.self.invariant

pub returns-in_err-holding-in-Some-clause-stays : goal.returns-in_err-holding-in-Some-clause-stays
returns-in_err-holding-in-Some-clause-stays c =
    let unchanged = (c.get_mut.follows.holds c.in-Some.holding.now).0 ∙ set-same (pointwise nat_eq c.args.content.now) c.self.inside.held.entries c.in-Some.holding.now (sym c.in-Some.ensures.value) in
    let is = ap (λ es. shown es c.self.inside.next) unchanged ∙ c.self.view_is in
    subst (λ v. KeepsNumbers c.args.self.now v) (sym is) (λ q k e. e)

pub returns-in_err-holding-in-Some-clause-err : goal.returns-in_err-holding-in-Some-clause-err
returns-in_err-holding-in-Some-clause-err c =
    let unchanged = (c.get_mut.follows.holds c.in-Some.holding.now).0 ∙ set-same (pointwise nat_eq c.args.content.now) c.self.inside.held.entries c.in-Some.holding.now (sym c.in-Some.ensures.value) in
    on_err c.from_residual.result _ (ap (λ es. shown es c.self.inside.next) unchanged ∙ c.self.view_is)

pub invariant_of-self-in-Some : goal.invariant_of-self-in-Some
invariant_of-self-in-Some c =
    let h = c.in_ok-holding-in-Some.field-0 in
    let u = ((c.get_mut.follows.holds h).3 (sym (ap is_some c.in-Some.ensures.value))).0 in
    let is = c.in_ok-holding-in-Some.ensures.ok in
    let some : 0 < h.holders = subst (λ x. 0 < x.holders) (sym is) (omega arith) in
    numbering-again c.self.inside.held.entries (c.get_mut.follows.lender h).entries c.args.content.now h u c.self.inside.next c.in-Some.holding.now (sym c.in-Some.ensures.value) (ap (λ x. x.number) is) some c.self.invariant

pub returns-in_ok-holding-in-Some-clause-more : goal.returns-in_ok-holding-in-Some-clause-more
returns-in_ok-holding-in-Some-clause-more c =
    let old = c.self.inside.held.entries in
    let t = c.args.content.now in
    let h = c.in_ok-holding-in-Some.field-0 in
    let u = ((c.get_mut.follows.holds h).3 (sym (ap is_some c.in-Some.ensures.value))).0 in
    let n = c.self.inside.next in
    subst (λ v. HasOneMore t v (shown (c.get_mut.follows.lender h).entries n)) c.self.view_is
    (one-more old (c.get_mut.follows.lender h).entries t (Some h) u n n (ap (λ x. x.holders) c.in_ok-holding-in-Some.ensures.ok ∙ ap (λ o. count o + 1) c.in-Some.ensures.value))

pub returns-in_ok-holding-in-Some-clause-stays : goal.returns-in_ok-holding-in-Some-clause-stays
returns-in_ok-holding-in-Some-clause-stays c =
    let h = c.in_ok-holding-in-Some.field-0 in
    let u = ((c.get_mut.follows.holds h).3 (sym (ap is_some c.in-Some.ensures.value))).0 in
    let n = c.self.inside.next in
    subst (λ v. KeepsNumbers v (shown (c.get_mut.follows.lender h).entries n)) c.self.view_is
    (keeps-again c.self.inside.held.entries (c.get_mut.follows.lender h).entries c.args.content.now h u n n c.in-Some.holding.now (sym c.in-Some.ensures.value) (ap (λ x. x.number) c.in_ok-holding-in-Some.ensures.ok))

pub returns-in_ok-holding-in-Some-clause-numbering : goal.returns-in_ok-holding-in-Some-clause-numbering
returns-in_ok-holding-in-Some-clause-numbering c =
    let h = c.in_ok-holding-in-Some.field-0 in
    let u = ((c.get_mut.follows.holds h).3 (sym (ap is_some c.in-Some.ensures.value))).0 in
    let is = c.in_ok-holding-in-Some.ensures.ok in
    let some : 0 < h.holders = subst (λ x. 0 < x.holders) (sym is) (omega arith) in
    numbering-again c.self.inside.held.entries (c.get_mut.follows.lender h).entries c.args.content.now h u c.self.inside.next c.in-Some.holding.now (sym c.in-Some.ensures.value) (ap (λ x. x.number) is) some c.self.invariant
