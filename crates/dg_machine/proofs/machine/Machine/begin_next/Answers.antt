use Rattle.std.proofs.Common.{◌-◌, ◌∙◌, ap, refl, sym, arith}
use Rattle.std.proofs.lemmas.Result.{IfOk-weaker}
use Rattle.dg_language.specs.Evaluation.{Then}
use Rattle.dg_language.specs.Language.{evaluate, sequence}
use Rattle.dg_language.specs.declared.code.Code.TheVariants.{Done}
use Rattle.dg_machine.specs.Choosing.{repeating}
use Rattle.dg_machine.specs.Meaning.{all_back, rest}
use Rattle.dg_machine.specs.declared.frame.Control.TheVariants.{Go}
use Rattle.dg_machine.specs.declared.frame.LoopPart.TheVariants.{Next}
use Rattle.dg_machine.specs.declared.machine.Machine.{Machine}
use Rattle.dg_machine.proofs.GatherLemmas.{Comes-along}
use Rattle.dg_machine.proofs.MachineLemmas.{Comes-known, evaluate-none, sequence-done, weight-cons}
use Rattle.dg_machine.proofs.SettlingLemmas.{next-back, text-settled, weight-ended, weight-settled}
use Rattle.dg_machine.proofs.machine.Machine.begin_next.Goals as goal

pub returns-then-depth-eq0 : goal.returns-then-depth-eq0
returns-then-depth-eq0 c text e =
    rw c.cut.ensures.same (evaluate-none _ _ _ _ (rw c.get.ensures at c.if-depth-eq0.true) ∙ c.in_ok-closing.ensures.ends, refl)

pub returns-then-is_over : goal.returns-then-is_over
unfolding rest
returns-then-is_over c text e =
    let old = c.args.self.now in
    let t = c.settle.new.self.state in
    let v = c.settle.new.value in
    let k = repeating c.args.repetition Next (all_back old.stack) in
    let settled = rw c.get.ensures at c.in_ok-left.ensures in
    let deep = rw c.get.ensures at c.if-depth-eq0.false in
    let none = rw c.if-is_over.true at c.is_over.ensures in
    let stack = ap (λ (m : Machine). m.stack) settled.same in
    let less = weight-settled Go old.stack old.state t settled.asks in
    let goes = text-settled _ _ _ _ _ _ _ _ k deep e c.new-value.ensures settled.goes_on ∙ sequence-done _ _ _ _ _ none in
    rw (c.end.ensures, c.in_ok-push.ensures, c.set_stage.ensures, stack)
    (ap (λ (j : Then). j Done v t) (next-back c.args.repetition old.stack) ∙ sym goes, settled.asks.0, rw (c.requires, weight-ended, weight-cons) (omega (arith, less)))

pub returns : goal.returns
returns c =
    let old = c.args.self.now in
    let settled = rw c.get.ensures at c.in_ok-left.ensures in
    let deep = rw c.get.ensures at c.if-depth-eq0.false in
    let stack = ap (λ (m : Machine). m.stack) settled.same in
    let control = ap (λ (m : Machine). m.control) settled.same in
    let less = weight-settled Go old.stack old.state c.settle.new.self.state settled.asks in
    let went = rw (c.in_ok-push.ensures, c.set_stage.ensures, stack, control, c.get.ensures) at c.next_command.ensures in
    IfOk-weaker c.next_command.result _ _
    (λ p h text e.
    Comes-along p _ _ _ _ _ _ (Comes-known p _ _ _ _ _ h settled.asks.0)
    (text-settled _ _ _ _ _ _ _ _ _ deep e c.new-value.ensures settled.goes_on
    ∙ ap (λ (k : Then). sequence (evaluate (c.args.repetition.depth - 1)) c.in_ok-left.left c.settle.new.value c.settle.new.self.state k)
    (sym (next-back c.args.repetition old.stack)))
    (rw c.requires (rw weight-cons (omega (arith, less)))))
    went
