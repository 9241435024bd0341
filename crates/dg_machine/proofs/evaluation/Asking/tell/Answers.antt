use Rattle.std.proofs.Common.{refl}
use Rattle.dg_language.specs.State.{learn}
use Rattle.dg_machine.proofs.EvaluationLemmas.{learned}
use Rattle.dg_machine.proofs.evaluation.Asking.tell.Goals as goal

pub invariant_of-result : goal.invariant_of-result
invariant_of-result c =
    let kind = rw (← c.self.view_is) at c.requires in
    rw (c.in_ok-learn.ensures, c.into_inner-ask.ensures) (learned _ _ _ _ c.self.invariant kind)

pub returns : goal.returns
unfolding learn
returns c = rw (← c.self.view_is, c.in_ok-learn.ensures, c.into_inner-ask.ensures) refl
