use Rattle.std.proofs.Common.{◌≡◌, ◌≤◌, ◌⊎◌, inl, inr, ◌∙◌, refl, arith}
use Rattle.std.proofs.lemmas.Result.{IfOk-weaker}
use Rattle.dg_machine.proofs.MachineLemmas.{Comes-known, known-stepped, no-step, step-left, weight-tick}
use Rattle.dg_machine.proofs.GatherLemmas.{Comes-along}
use Rattle.dg_machine.proofs.ChoiceLemmas.{repeat-cut, repeat-next}
use Rattle.dg_machine.proofs.machine.Machine.next_test.Goals.{then-get-eq0-via-then-get-eq0, then-get-eq0-via-else-get-eq0+then-not-has_step}
use Rattle.dg_machine.proofs.machine.Machine.next_test.Goals as goal

pub returns-then-get-eq0 : goal.returns-then-get-eq0
returns-then-get-eq0 c =
    let h : (c.args.repetition.left ≡ 0) ⊎ (100000 ≤ c.args.self.now.state.steps) =
    elim c.then-get-eq0.branch [
      | then-get-eq0-via-then-get-eq0 w ↦ inl (rw c.get.ensures at w.if-get-eq0.true)
      | then-get-eq0-via-else-get-eq0+then-not-has_step w ↦ inr (no-step c.args.self.now.state _ w.has_step.ensures w.if-not-has_step.true)
    ] in
    rw c.out_of_steps.ensures.same (repeat-cut _ _ _ _ _ _ _ h ∙ c.in_ok-closing.ensures.ends, refl)

pub returns : goal.returns
returns c =
    let h = step-left c.args.self.now.state _ c.has_step.ensures c.if-not-has_step.false in
    let went = rw (c.take_step.ensures, c.begin_test.ensures, c.requires) at c.test.ensures in
    let more = rw c.get.ensures at c.if-get-eq0.false in
    rw c.requires
    (IfOk-weaker c.test.result _ _
    (λ p g. Comes-along p _ _ _ _ _ _ (Comes-known p _ _ _ _ _ g (known-stepped _)) (repeat-next _ _ _ _ _ _ _ more h) (weight-tick _ _ _ h (omega arith))) went)
