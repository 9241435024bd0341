use Rattle.std.proofs.Common.{◌∙◌, ap, sym, refl, arith, List}
use Rattle.std.proofs.lemmas.Result.{IfOk-weaker}
use Rattle.dg_language.specs.State.{State}
use Rattle.dg_machine.specs.declared.frame.Frame.{Frame}
use Rattle.dg_machine.specs.declared.machine.Machine.{Machine}
use Rattle.dg_machine.specs.Meaning.{all_back}
use Rattle.dg_machine.proofs.StepLemmas.{Goes-runs}
use Rattle.dg_machine.proofs.machine.Machine.come_of.Goals as goal

pub returns-in-Ends : goal.returns-in-Ends
returns-in-Ends c =
    IfOk-weaker c.end_as.result _ _ (λ p h f old same a.
    let stack = ap (λ (m : Machine). m.stack) same in
    let control = ap (λ (m : Machine). m.control) same in
    Goes-runs p _ _ (λ s. f s (all_back old.stack)) _ _ old _ (h f old.state (rw c.in-Ends.is at a))
    (ap (λ (fs : List Frame). f old.state (all_back fs)) (sym stack)) refl (rw (stack, ← control, c.requires) (omega arith))) c.end_as.ensures

pub returns-in_ok-ask-in-Asks : goal.returns-in_ok-ask-in-Asks
returns-in_ok-ask-in-Asks c f old same a =
    let a = rw c.in-Asks.is at a in
    rw c.in_ok-ask-in-Asks.ensures (a.0 (all_back old.stack), same ∙ ap (λ (s : State). record old { state = s }) a.1, a.2)
