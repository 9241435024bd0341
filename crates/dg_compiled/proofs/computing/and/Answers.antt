use Rattle.std.proofs.Common.{refl}
use Rattle.dg_compiled.proofs.ExpressionLemmas.{and-true, and-false, and-fault}
use Rattle.dg_compiled.proofs.computing.and.Goals as goal

pub returns-in-Ok-true : goal.returns-in-Ok-true
returns-in-Ok-true c =
    let truth = rw c.in-Ok-true.field-0-test at (rw c.in-Ok-true.is at c.in_ok-take_truth.ensures.truth) in
    λ s. rw c.in_ok-take_truth.ensures.others ((λ k. and-true _ _ _ _ _ _ truth), refl, refl)

pub returns-in_ok-put-in-Ok-false : goal.returns-in_ok-put-in-Ok-false
returns-in_ok-put-in-Ok-false c =
    let truth = rw c.in-Ok-false.field-0-test at (rw c.in-Ok-false.is at c.in_ok-take_truth.ensures.truth) in
    λ s. rw (c.in_ok-put-in-Ok-false.ensures, c.in_ok-value-in-Ok-false.ensures, c.in_ok-take_truth.ensures.others) ((λ k. and-false _ _ _ _ _ _ truth), refl, refl)

pub returns-in-Err : goal.returns-in-Err
returns-in-Err c =
    let truth = rw c.in-Err.is at c.in_ok-take_truth.ensures.truth in
    λ s k. and-fault _ _ _ _ _ _ _ truth
