use Rattle.std.proofs.Common.{[], ◌∷◌, ◌∙◌, ap, sym}
use Rattle.dg_scope.specs.Scopes.{value_of}
use Rattle.dg_language.specs.Variables.{append_elements, or_empty}
use Rattle.dg_forms.proofs.Choices.{empty-if}
use Rattle.dg_asking.proofs.AttemptLemmas.{attempts-as, ends-as, miscounts, used-ends}
use Rattle.dg_asking.proofs.VariableLemmas.{lappend-none, lappend-of}
use Rattle.dg_asking.proofs.variables.lappend.Goals as goal

pub returns-in_default : goal.returns-in_default
returns-in_default c = miscounts c.miscounted.result _ _ _ c.miscounted.ensures (lappend-none _ c.in_default.ensures)

pub returns-in-Some-2 : goal.returns-in-Some-2
returns-in-Some-2 c =
    let n = c.in-Some.name.now in
    let waits = rw c.as_slice.ensures at (rw c.in-Some-2.is at c.in_ok-attempt.ensures.precedes) in
    attempts-as _ _ _ _ _ (waits (λ t k. append_elements n (or_empty (value_of t.variables n)) c.in-Some.values.now t k))
    (lappend-of _ _ _ c.in-Some.ensures)

pub returns-then-is_empty : goal.returns-then-is_empty
returns-then-is_empty c =
    let n = c.in-Some.name.now in
    let none = empty-if c.in-Some.values.now (sym c.is_empty.ensures ∙ c.if-is_empty.true) in
    let ready = rw c.as_slice.ensures at (rw c.in_default-2.is at c.in_ok-attempt.ensures.precedes) in
    let went = rw c.as_slice-then-is_empty.ensures at c.in_ok-outcome.ensures in
    ends-as _ _ _ _ _ (used-ends n (λ t k. append_elements n (or_empty (value_of t.variables n)) [] t k) _ _ _ _ ready went)
    (lappend-of c.args.args.now n [] (c.in-Some.ensures ∙ ap (λ vs. n ∷ vs) none))

pub returns : goal.returns
returns c =
    let n = c.in-Some.name.now in
    let vs = c.in-Some.values.now in
    let ready = rw c.as_slice.ensures at (rw c.in_default-2.is at c.in_ok-attempt.ensures.precedes) in
    let went = rw c.as_slice-2.ensures at c.in_ok-outcome-2.ensures in
    ends-as _ _ _ _ _ (used-ends n (λ t k. append_elements n (or_empty (value_of t.variables n)) vs t k) _ _ _ _ ready went)
    (lappend-of _ _ _ c.in-Some.ensures)
