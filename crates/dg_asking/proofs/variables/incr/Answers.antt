use Rattle.std.proofs.Common.{sym}
use Rattle.dg_language.specs.Variables.{add_number}
use Rattle.dg_asking.proofs.AttemptLemmas.{attempts-as, ends-as, miscounts, used-ends}
use Rattle.dg_asking.proofs.VariableLemmas.{incr-none, incr-miscounted, incr-of}
use Rattle.dg_asking.proofs.variables.incr.Goals as goal

pub returns-in_default : goal.returns-in_default
returns-in_default c = miscounts c.miscounted.result _ _ _ c.miscounted.ensures (incr-none _ c.in_default.ensures)

pub returns-in_default-addend : goal.returns-in_default-addend
returns-in_default-addend c =
    miscounts c.miscounted-in_default-addend.result _ _ _ c.miscounted-in_default-addend.ensures (incr-miscounted _ _ _ c.in-Some.ensures (sym c.in_default-addend.ensures))

pub returns-in-Some-2 : goal.returns-in-Some-2
returns-in-Some-2 c =
    let waits = rw c.as_slice.ensures at (rw c.in-Some-2.is at c.in_ok-attempt.ensures.precedes) in
    attempts-as _ _ _ _ _ (waits (λ t k. add_number c.in-Some.name.now c.in-Some-addend.by.now t k))
    (incr-of _ _ _ c.in-Some.ensures _ (sym c.in-Some-addend.ensures))

pub returns : goal.returns
unfolding add_number
returns c =
    let n = c.in-Some.name.now in
    let by = c.in-Some-addend.by.now in
    let ready = rw c.as_slice.ensures at (rw c.in_default-2.is at c.in_ok-attempt.ensures.precedes) in
    let old = rw (c.value_of.ensures, c.as_slice-2.ensures) at c.in_ok-old.ensures in
    let went = rw (c.as_slice-3.ensures, old) at c.in_ok-outcome.ensures in
    ends-as _ _ _ _ _ (used-ends n (λ t k. add_number n by t k) _ _ _ _ ready went)
    (incr-of _ _ _ c.in-Some.ensures by (sym c.in-Some-addend.ensures))
