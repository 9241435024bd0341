use Rattle.std.proofs.Common.{ap, refl, arith}
use Rattle.std.proofs.lemmas.Result.{IfOk-weaker}
use Rattle.std.specs.Arc.{arc_value}
use Rattle.dg_machine.specs.declared.machine.Machine.{Machine}
use Rattle.dg_machine.specs.Meaning.{all_back}
use Rattle.dg_machine.proofs.GatherLemmas.{Comes-along}
use Rattle.dg_machine.proofs.MachineLemmas.{Comes-known}
use Rattle.dg_machine.proofs.SettlingLemmas.{left-settled, weight-settled}
use Rattle.dg_machine.proofs.machine.Machine.sequence.Goals as goal

pub returns-in_ok-at-in-Ok : goal.returns-in_ok-at-in-Ok
returns-in_ok-at-in-Ok c =
    let old = c.args.self.now in
    let settled = rw c.deref.ensures at c.in_ok-at-in-Ok.ensures in
    let stack = ap (λ (m : Machine). m.stack) settled.same in
    let control = ap (λ (m : Machine). m.control) settled.same in
    let less = weight-settled old.control old.stack old.state c.settle_from.new.self.state settled.asks in
    let went = rw (stack, control) at c.next_at.ensures in
    IfOk-weaker c.next_at.result _ _
    (λ p h.
    Comes-along p _ _ _ _ _ _ (Comes-known p _ _ _ _ _ h settled.asks.0)
    (left-settled c.args.depth c.args.commands (arc_value c.in-Ok.all) c.in-Ok.first c.in_ok-at-in-Ok.at c.args.value c.args.value c.settle_from.new.value old.state
    c.settle_from.new.self.state (all_back old.stack) c.in-Ok.ensures refl settled.goes_on) (omega (arith, less)))
    went
