use Rattle.std.proofs.Common.{◌≡◌, ◌≤◌, ◌<◌, ◌⊎◌, inl, inr, ◌∙◌, refl, sym, length, arith}
use Rattle.std.proofs.lemmas.Result.{IfOk-weaker}
use Rattle.dg_machine.specs.Meaning.{rest, weight}
use Rattle.dg_machine.proofs.MachineLemmas.{Comes-known, known-stepped, no-step, step-left}
use Rattle.dg_machine.proofs.GatherLemmas.{Comes-along}
use Rattle.dg_machine.proofs.LoopLemmas.{each-done, each-cut, each-next, weight-round}
use Rattle.dg_machine.proofs.machine.Machine.next_round.Goals.{then-rounds-eq0-via-then-rounds-eq0, then-rounds-eq0-via-else-rounds-eq0+then-not-has_step}
use Rattle.dg_machine.proofs.machine.Machine.next_round.Goals as goal

pub returns-then-len-eq0 : goal.returns-then-len-eq0
unfolding rest weight
returns-then-len-eq0 c =
    let none : length c.args.rounds.values ≡ 0 = omega (arith, c.len.ensures, c.if-len-eq0.true) in
    rw (c.end.ensures, c.new.ensures, c.requires) (sym (each-done _ _ _ _ _ _ _ none), refl, omega arith)

pub returns-then-rounds-eq0 : goal.returns-then-rounds-eq0
returns-then-rounds-eq0 c =
    let some : 0 < length c.args.rounds.values = omega (arith, c.len.ensures, c.if-len-eq0.false) in
    let h : (c.args.rounds.left ≡ 0) ⊎ (100000 ≤ c.args.self.now.state.steps) =
    elim c.then-rounds-eq0.branch [
      | then-rounds-eq0-via-then-rounds-eq0 w ↦ inl w.if-rounds-eq0.true
      | then-rounds-eq0-via-else-rounds-eq0+then-not-has_step w ↦ inr (no-step c.args.self.now.state _ w.has_step.ensures w.if-not-has_step.true)
    ] in
    rw c.out_of_steps.ensures.same (each-cut _ _ _ _ _ _ _ some h ∙ c.in_ok-closing.ensures.ends, refl)

pub returns : goal.returns
returns c =
    let some : 0 < length c.args.rounds.values = omega (arith, c.len.ensures, c.if-len-eq0.false) in
    let h = step-left c.args.self.now.state _ c.has_step.ensures c.if-not-has_step.false in
    let went = rw (c.take_step.ensures, c.requires) at c.give_next.ensures in
    rw c.requires
    (IfOk-weaker c.give_next.result _ _
    (λ p g.
    Comes-along p _ _ _ _ _ _ (Comes-known p _ _ _ _ _ g (known-stepped _)) (sym (each-next _ _ _ _ _ _ _ some c.if-rounds-eq0.false h))
    (weight-round _ _ _ h (rw (← c.len-count.ensures) (omega arith))))
    went)
