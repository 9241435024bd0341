use Rattle.std.proofs.Common.{refl}
use Rattle.dg_compiled.proofs.ExpressionLemmas.{two-value, two-fault}
use Rattle.dg_compiled.proofs.computing.apply.Goals as goal

pub returns-in-Ok : goal.returns-in-Ok
returns-in-Ok c =
    let value = rw (c.in-Ok.is, c.as_slice.ensures, c.as_slice-2.ensures, c.take_top-left.ensures.first, c.take_top-right.ensures.first, c.take_top-right.ensures.others) at c.in_ok-value.ensures in
    λ s. rw (c.in_ok-put-in-Ok.ensures, c.take_top-left.ensures.others, c.take_top-right.ensures.others) ((λ k. two-value _ _ _ _ _ _ _ value), refl, refl)

pub returns : goal.returns
returns c =
    let fault = rw (c.in-Err.is, c.as_slice.ensures, c.as_slice-2.ensures, c.take_top-left.ensures.first, c.take_top-right.ensures.first, c.take_top-right.ensures.others) at c.in_ok-value.ensures in
    λ s k. two-fault _ _ _ _ _ _ _ fault
