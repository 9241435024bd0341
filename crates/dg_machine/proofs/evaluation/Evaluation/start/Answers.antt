use Rattle.std.proofs.Common.{refl}
use Rattle.dg_language.specs.State.{fresh}
use Rattle.dg_machine.proofs.EvaluationLemmas.{starts}
use Rattle.dg_machine.proofs.evaluation.Evaluation.start.Goals as goal

pub invariant_of-result : goal.invariant_of-result
invariant_of-result c =
    let m = c.new-machine.ensures in
    rw c.in_ok-machine.ensures
    (starts _ _ (rw (m.state, c.new-state.ensures, c.in_ok-copy.ensures) refl) (rw (m.stack, c.in_ok-push.ensures, c.new-stack.ensures) refl) m.control)

pub returns : goal.returns
unfolding fresh
returns c = rw (c.in_ok-machine.ensures, c.new-machine.ensures.state, c.new-state.ensures) refl
