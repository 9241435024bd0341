use Rattle.std.proofs.Common.{refl}
use Rattle.dg_compiled.proofs.ExpressionLemmas.{tell-truth, tell-fault}
use Rattle.dg_compiled.proofs.computing.tell.Goals as goal

pub returns-in_ok-put-in-Ok : goal.returns-in_ok-put-in-Ok
returns-in_ok-put-in-Ok c =
    let truth = rw c.in-Ok.is at c.in_ok-holds.ensures.truth in
    λ s. rw (c.in_ok-put-in-Ok.ensures, c.in_ok-value-in-Ok.ensures, c.truth_text.ensures, c.in_ok-holds.ensures.others) ((λ k. tell-truth _ _ _ _ _ _ truth), refl, refl)

pub returns-in-Err : goal.returns-in-Err
returns-in-Err c =
    let truth = rw c.in-Err.is at c.in_ok-holds.ensures.truth in
    λ s k. tell-fault _ _ _ _ _ _ truth
