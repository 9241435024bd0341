use Rattle.std.proofs.Common.{◌∙◌, sym, refl, subst, ◌<◌, ◌≤◌, true}
use Rattle.dg_language.specs.State.{began, began_with}
use Rattle.dg_language.proofs.TouchLemmas.{touch-asks, touch-begins, touch-begins-with, touch-too-long}
use Rattle.dg_language.proofs.state.State.touch_first.Goals as goal

pub returns-in_default : goal.returns-in_default
returns-in_default c =
    let name = c.in_ok-from_slice.ensures ∙ c.global_name-global.ensures in
    (touch-asks _ _ _ name true (sym c.requires) refl (sym c.in_default.ensures), refl, sym c.in_default.ensures)

pub returns-in_default-2 : goal.returns-in_default-2
unfolding began
returns-in_default-2 c =
    let name = c.in_ok-from_slice.ensures ∙ c.global_name-global.ensures in
    let none = sym c.in_ok-value.ensures ∙ c.in_default-2.is in
    rw c.in_ok-begin.ensures
    (touch-begins _ _ _ name true (sym c.requires) refl _ (sym c.in-Some.ensures) _ (sym c.in_ok-from_slice.ensures) none, refl)

pub returns-then-len-gt-LONGEST_VALUE : goal.returns-then-len-gt-LONGEST_VALUE
returns-then-len-gt-LONGEST_VALUE c =
    let name = c.in_ok-from_slice.ensures ∙ c.global_name-global.ensures in
    let long = subst (λ n. 1048576 < n) c.len.ensures c.if-len-gt-LONGEST_VALUE.true in
    let some = sym c.in_ok-value.ensures ∙ c.in-Some-2.is in
    (touch-too-long _ _ _ name true (sym c.requires) refl _ (sym c.in-Some.ensures) _ (sym c.in_ok-from_slice.ensures) _ some long, refl)

pub returns : goal.returns
unfolding began_with
returns c =
    let name = c.in_ok-from_slice.ensures ∙ c.global_name-global.ensures in
    let short = subst (λ n. n ≤ 1048576) c.len.ensures c.if-len-gt-LONGEST_VALUE.false in
    let some = sym c.in_ok-value.ensures ∙ c.in-Some-2.is in
    rw c.in_ok-begin_with.ensures
    (touch-begins-with _ _ _ name true (sym c.requires) refl _ (sym c.in-Some.ensures) _ (sym c.in_ok-from_slice.ensures) _ some short, refl)
