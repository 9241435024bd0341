use Rattle.std.proofs.Common.{◌≤◌, ◌<◌, refl, ap, length, arith}
use Rattle.std.proofs.lemmas.Result.{IfOk-weaker}
use Rattle.dg_machine.specs.declared.machine.Machine.{Machine}
use Rattle.dg_machine.specs.Meaning.{rest, go}
use Rattle.dg_machine.proofs.MachineLemmas.{Comes-known}
use Rattle.dg_machine.proofs.GatherLemmas.{Comes-along}
use Rattle.dg_machine.proofs.LoopLemmas.{give-done, give-asks, give-over, give-ready, weight-readied}
use Rattle.dg_machine.proofs.ResultLemmas.{Comes-along-ok}
use Rattle.dg_machine.proofs.machine.Machine.give_next.Goals as goal

pub returns-then-at-len : goal.returns-then-at-len
returns-then-at-len c =
    let past : length c.args.rounds.names ≤ c.args.at = omega (arith, c.len.ensures, c.if-at-len.true) in
    Comes-along-ok _ _ _ _ _ _ _ c.begin_body.ensures (give-done _ _ _ _ _ past) (omega arith)

pub returns-in_ok-push-in-Some-Stands : goal.returns-in_ok-push-in-Some-Stands
unfolding rest go
returns-in_ok-push-in-Some-Stands c =
    let asks = rw c.as_slice.ensures at (rw c.in-Some-Stands.field-0-is at (rw c.in-Some-Stands.is at c.in_ok-ask.ensures)) in
    let here : c.args.at < length c.args.rounds.names = omega (arith, c.len.ensures, c.if-at-len.false) in
    rw (c.in-Some-Stands.field-0-is, c.in_ok-push-in-Some-Stands.ensures, asks.1, c.requires.given, c.requires.go)
    (give-asks _ _ _ here c.in_ok-name.ensures _ _ _ _ asks.0, refl, asks.2)

pub returns-in-Some-Over : goal.returns-in-Some-Over
returns-in-Some-Over c =
    let over = rw c.as_slice.ensures at (rw c.in-Some-Over.field-0-is at (rw c.in-Some-Over.is at c.in_ok-ask.ensures)) in
    let here : c.args.at < length c.args.rounds.names = omega (arith, c.len.ensures, c.if-at-len.false) in
    rw c.in-Some-Over.field-0-is (give-over _ _ _ here c.in_ok-name.ensures _ _ _ _ over.0, ap (λ (m : Machine). m.state.known) over.1)

pub returns-in-None : goal.returns-in-None
returns-in-None c =
    let ready = rw c.as_slice.ensures at (rw c.in-None.is at c.in_ok-ask.ensures) in
    let here : c.args.at < length c.args.rounds.names = omega (arith, c.len.ensures, c.if-at-len.false) in
    let control = ap (λ (m : Machine). m.control) ready.1 in
    let stack = ap (λ (m : Machine). m.stack) ready.1 in
    let went = rw (control, stack, c.as_slice-in-None.ensures) at c.give_value.ensures in
    let same = weight-readied c.args.self.now.state c.ready.new.self.state c.args.self.now.control c.args.self.now.stack (ap (λ (m : Machine). m.state) ready.1) in
    IfOk-weaker c.give_value.result _ _
    (λ p h.
    Comes-along p _ _ _ _ _ _ (Comes-known p _ _ _ _ _ h (ap (λ (m : Machine). m.state.known) ready.1)) (give-ready _ _ _ here c.in_ok-name.ensures _ _ _ _ ready.0) (rw same (omega arith)))
    went
