use Rattle.std.proofs.Common.{◌≡◌, ◌∙◌, ◌+◌, Some, None, arith, ap, sym, subst, refl}
use Rattle.std.specs.Map.{lookup}
use Rattle.std.specs.Cmp.Lexicographic.{pointwise}
use Rattle.std.specs.Prelude.{nat_eq}
use Rattle.dg_contents.specs.Contents.{number_of, HasOneMore, KeepsNumbers}
use Rattle.dg_contents.proofs.ContentsLemmas.{count, first_holding, keeps-next, numbering-next, one-more, shown, unnumbered, went_well, Updated}
use Rattle.dg_contents.proofs.contents.Contents.hold_new.Goals as goal

pub invariant_of-self-2 : goal.invariant_of-self-2
invariant_of-self-2 c =
    let u = (went_well c.insert.result _ c.insert.ensures.updates (sym c.is_err.ensures.value ∙ c.if-is_err.false)).0 in
    numbering-next c.self.inside.held.entries c.insert.new.self.entries c.in_ok-content.content (first_holding c.self.inside.next) u c.self.inside.next c.in-Some.next refl (omega arith) c.in-Some.ensures.1 c.self.invariant

pub returns-clause-more : goal.returns-clause-more
returns-clause-more c =
    let old = c.self.inside.held.entries in
    let t = c.args.content.now in
    let h = first_holding c.self.inside.next in
    let u : Updated old c.insert.new.self.entries t (Some h) =
    subst (λ x. Updated old c.insert.new.self.entries x (Some h)) c.in_ok-content.ensures (went_well c.insert.result _ c.insert.ensures.updates (sym c.is_err.ensures.value ∙ c.if-is_err.false)).0 in
    let none : lookup (pointwise nat_eq t) old ≡ None = unnumbered _ (ap (λ v. number_of v t) c.self.view_is ∙ c.requires) in
    subst (λ v. HasOneMore t v (shown c.insert.new.self.entries c.in-Some.next)) c.self.view_is
    (one-more old c.insert.new.self.entries t (Some h) u c.self.inside.next c.in-Some.next (ap (λ o. count o + 1) (sym none)))

pub returns-clause-stays : goal.returns-clause-stays
returns-clause-stays c =
    let old = c.self.inside.held.entries in
    let t = c.args.content.now in
    let h = first_holding c.self.inside.next in
    let u : Updated old c.insert.new.self.entries t (Some h) =
    subst (λ x. Updated old c.insert.new.self.entries x (Some h)) c.in_ok-content.ensures (went_well c.insert.result _ c.insert.ensures.updates (sym c.is_err.ensures.value ∙ c.if-is_err.false)).0 in
    let none : lookup (pointwise nat_eq t) old ≡ None = unnumbered _ (ap (λ v. number_of v t) c.self.view_is ∙ c.requires) in
    subst (λ v. KeepsNumbers v (shown c.insert.new.self.entries c.in-Some.next)) c.self.view_is (keeps-next old c.insert.new.self.entries t h u c.self.inside.next c.in-Some.next none)
