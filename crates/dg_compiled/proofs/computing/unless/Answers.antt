use Rattle.std.proofs.Common.{refl}
use Rattle.dg_compiled.proofs.ExpressionLemmas.{unless-true, unless-false, unless-fault}
use Rattle.dg_compiled.proofs.computing.unless.Goals as goal

pub returns-in-Ok-true : goal.returns-in-Ok-true
returns-in-Ok-true c =
    let truth = rw c.in-Ok-true.field-0-test at (rw c.in-Ok-true.is at c.in_ok-take_truth.ensures.truth) in
    λ s. rw c.in_ok-take_truth.ensures.others ((λ k. unless-true _ _ _ _ _ _ truth), refl, refl)

pub returns-in-Ok-false : goal.returns-in-Ok-false
returns-in-Ok-false c =
    let truth = rw c.in-Ok-false.field-0-test at (rw c.in-Ok-false.is at c.in_ok-take_truth.ensures.truth) in
    λ s. rw c.in_ok-take_truth.ensures.others ((λ k. unless-false _ _ _ _ _ _ truth), refl, refl)

pub returns-in-Err : goal.returns-in-Err
returns-in-Err c =
    let truth = rw c.in-Err.is at c.in_ok-take_truth.ensures.truth in
    λ s k. unless-fault _ _ _ _ _ _ _ truth
