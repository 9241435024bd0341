use Rattle.std.proofs.Common.{◌++◌}
use Rattle.std.specs.List.{concat}
use Rattle.dg_scope.specs.Scopes.{value_of}
use Rattle.dg_language.specs.Variables.{store, or_empty}
use Rattle.dg_asking.proofs.AttemptLemmas.{attempts-as, ends-as, miscounts, used-ends}
use Rattle.dg_asking.proofs.VariableLemmas.{append-none, append-of}
use Rattle.dg_asking.proofs.variables.append.Goals as goal

pub returns-in_default : goal.returns-in_default
returns-in_default c = miscounts c.miscounted.result _ _ _ c.miscounted.ensures (append-none _ c.in_default.ensures)

pub returns-in-Some-2 : goal.returns-in-Some-2
returns-in-Some-2 c =
    let n = c.in-Some.name.now in
    let waits = rw c.as_slice.ensures at (rw c.in-Some-2.is at c.in_ok-attempt.ensures.precedes) in
    attempts-as _ _ _ _ _ (waits (λ t k. store n (or_empty (value_of t.variables n) ++ concat c.in-Some.values.now) t k))
    (append-of _ _ _ c.in-Some.ensures)

pub returns : goal.returns
returns c =
    let n = c.in-Some.name.now in
    let vs = c.in-Some.values.now in
    let ready = rw c.as_slice.ensures at (rw c.in_default-2.is at c.in_ok-attempt.ensures.precedes) in
    let went = rw (c.as_slice-3.ensures, c.in_ok-extend_all.ensures, c.new-more.ensures, c.as_slice-2.ensures) at c.in_ok-outcome.ensures in
    ends-as _ _ _ _ _ (used-ends n (λ t k. store n (or_empty (value_of t.variables n) ++ concat vs) t k) _ _ _ _ ready went)
    (append-of _ _ _ c.in-Some.ensures)
