use Rattle.std.proofs.Common.{◌∙◌, ap, sym, refl, length, arith}
use Rattle.std.proofs.lemmas.Result.{IfOk-weaker}
use Rattle.dg_language.specs.Play.{Play}
use Rattle.dg_language.specs.State.{State}
use Rattle.dg_language.specs.Evaluation.{Ending, Then}
use Rattle.dg_language.specs.Variables.{unset_all}
use Rattle.dg_asking.proofs.AttemptLemmas.{ends-as}
use Rattle.dg_machine.specs.declared.frame.Control.TheVariants.{Go}
use Rattle.dg_machine.specs.Meaning.{all_back, go, rest}
use Rattle.dg_machine.proofs.AttemptLemmas.{unset-as, unset-asks, weight-kept}
use Rattle.dg_machine.proofs.MachineLemmas.{weight-cons, Goes-comes}
use Rattle.dg_machine.proofs.machine.Machine.unset_next.Goals as goal

pub returns-in_ok-push-in-None : goal.returns-in_ok-push-in-None
unfolding rest go
returns-in_ok-push-in-None c =
    let over = rw (c.in-None.is, c.as_slice.ensures) at c.in_ok-unset_name.ensures in
    let k = all_back c.args.self.now.stack in
    let first = unset-as c.args.complains _ _ _ c.in-Some.ensures in
    let count = ap length c.in-Some.ensures in
    rw (c.in_ok-push-in-None.ensures, c.requires) (
      sym (ap (λ (f : State → Then → Play Ending). f c.args.self.now.state k) first ∙ over.0 (λ t. unset_all c.args.complains _ t k) k),
      over.1.0,
      (rw (weight-cons, weight-kept Go c.args.self.now.state c.unset_name.new.state c.args.self.now.stack over.1) (omega (arith, count))),
    )

pub returns-in-Some-Ends : goal.returns-in-Some-Ends
returns-in-Some-Ends c =
    let ended = rw c.in-Some-Ends.field-0-is at (rw (c.in-Some-Ends.is, c.as_slice.ensures) at c.in_ok-unset_name.ensures) in
    let first = unset-as c.args.complains _ _ _ c.in-Some.ensures in
    let count = ap length c.in-Some.ensures in
    IfOk-weaker c.end_as.result _ _ (λ p h.
    Goes-comes p _ _ _ _ _ _
    (h (unset_all c.args.complains c.args.names) c.args.self.now.state (ends-as _ _ _ _ _ (ended (λ t k. unset_all c.args.complains _ t k)) first))
    refl (rw c.requires (omega (arith, count)))) c.end_as.ensures

pub returns-in_ok-ask-in-Some-Asks : goal.returns-in_ok-ask-in-Some-Asks
unfolding rest go
returns-in_ok-ask-in-Some-Asks c =
    let asks = (rw c.in-Some-Asks.field-0-is at (rw (c.in-Some-Asks.is, c.as_slice.ensures) at c.in_ok-unset_name.ensures)) (λ t k. unset_all c.args.complains _ t k) in
    rw (c.in_ok-ask-in-Some-Asks.ensures, c.in_ok-push-in-Some-Asks.ensures, c.in_ok-push_front-in-Some-Asks.ensures, c.requires)
    (unset-asks c.args.complains _ _ _ c.in-Some.ensures _ _ _ _ asks, ap (λ (s : State). s.known) asks.1, asks.2)
