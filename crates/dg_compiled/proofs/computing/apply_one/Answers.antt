use Rattle.std.proofs.Common.{refl}
use Rattle.dg_compiled.proofs.ExpressionLemmas.{one-value, one-fault}
use Rattle.dg_compiled.proofs.computing.apply_one.Goals as goal

pub returns-in-Ok : goal.returns-in-Ok
returns-in-Ok c =
    let value = rw (c.in-Ok.is, c.as_slice.ensures, c.take_top-operand.ensures.first) at c.in_ok-value.ensures in
    λ s. rw (c.in_ok-put-in-Ok.ensures, c.take_top-operand.ensures.others) ((λ k. one-value _ _ _ _ _ _ _ value), refl, refl)

pub returns : goal.returns
returns c =
    let fault = rw (c.in-Err.is, c.as_slice.ensures, c.take_top-operand.ensures.first) at c.in_ok-value.ensures in
    λ s k. one-fault _ _ _ _ _ _ _ fault
