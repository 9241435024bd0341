use Rattle.std.proofs.Common.{◌-◌, ◌∙◌, ap, refl, sym, arith}
use Rattle.std.proofs.lemmas.Result.{IfOk-weaker}
use Rattle.dg_language.specs.Evaluation.{Then}
use Rattle.dg_language.specs.Language.{evaluate, sequence}
use Rattle.dg_machine.specs.Choosing.{stage_weight}
use Rattle.dg_machine.specs.declared.frame.Control.TheVariants.{Go}
use Rattle.dg_machine.specs.declared.machine.Machine.{Machine}
use Rattle.dg_machine.proofs.GatherLemmas.{Comes-along}
use Rattle.dg_machine.proofs.MachineLemmas.{Comes-known, evaluate-none, sequence-done, weight-cons}
use Rattle.dg_machine.proofs.SettlingLemmas.{body-back, text-settled, weight-settled}
use Rattle.dg_machine.proofs.machine.Machine.run_body.Goals as goal

pub returns-then-depth-eq0 : goal.returns-then-depth-eq0
returns-then-depth-eq0 c =
    rw c.cut.ensures.same (evaluate-none _ _ _ _ (rw c.get-looped.ensures at c.if-depth-eq0.true) ∙ c.in_ok-closing.ensures.ends, refl)

pub returns-then-is_over : goal.returns-then-is_over
returns-then-is_over c =
    let old = c.args.self.now in
    let settled = rw c.get-looped.ensures at c.in_ok-left.ensures in
    let deep = rw c.get-looped.ensures at c.if-depth-eq0.false in
    let read = rw c.get-looped.ensures at c.in_ok-commands.ensures in
    let none = rw c.if-is_over.true at c.is_over.ensures in
    let stack = ap (λ (m : Machine). m.stack) settled.same in
    let control = ap (λ (m : Machine). m.control) settled.same in
    let less = weight-settled old.control old.stack old.state c.settle.new.self.state settled.asks in
    let went = rw (stack, control) at c.end_body.ensures in
    IfOk-weaker c.end_body.result _ _
    (λ p h.
    Comes-along p _ _ _ _ _ _ (Comes-known p _ _ _ _ _ h settled.asks.0)
    (text-settled _ _ _ _ _ _ _ _ _ deep read c.new-value.ensures settled.goes_on ∙ sequence-done _ _ _ _ _ none)
    (omega (arith, less)))
    went

pub returns : goal.returns
returns c =
    let old = c.args.self.now in
    let settled = rw c.get-looped.ensures at c.in_ok-left.ensures in
    let deep = rw c.get-looped.ensures at c.if-depth-eq0.false in
    let read = rw c.get-looped.ensures at c.in_ok-commands.ensures in
    let stack = ap (λ (m : Machine). m.stack) settled.same in
    let control = ap (λ (m : Machine). m.control) settled.same in
    let less = weight-settled Go old.stack old.state c.settle.new.self.state settled.asks in
    let stage = ap stage_weight c.requires.stage in
    let went = rw (c.in_ok-push.ensures, stack, control, c.get-looped.ensures) at c.next_command.ensures in
    IfOk-weaker c.next_command.result _ _
    (λ p h.
    Comes-along p _ _ _ _ _ _ (Comes-known p _ _ _ _ _ h settled.asks.0)
    (text-settled _ _ _ _ _ _ _ _ _ deep read c.new-value.ensures settled.goes_on
    ∙ ap (λ (k : Then). sequence (evaluate (c.args.repetition.depth - 1)) c.in_ok-left.left c.settle.new.value c.settle.new.self.state k)
    (sym (body-back c.args.repetition old.stack c.requires.stage)))
    (rw c.requires.go (rw weight-cons (omega (arith, less, stage)))))
    went
