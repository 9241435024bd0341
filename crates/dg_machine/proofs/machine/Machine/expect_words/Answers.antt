use Rattle.std.proofs.Common.{◌∙◌, ap, sym, refl, arith}
use Rattle.std.proofs.lemmas.Result.{IfOk-weaker}
use Rattle.dg_language.specs.State.{State}
use Rattle.dg_language.specs.Expecting.{expect_with}
use Rattle.dg_language.specs.Language.{evaluate}
use Rattle.dg_machine.specs.declared.frame.Control.TheVariants.{Go}
use Rattle.dg_machine.specs.Meaning.{all_back, go, rest}
use Rattle.dg_machine.proofs.AttemptLemmas.{weight-kept}
use Rattle.dg_machine.proofs.MachineLemmas.{weight-cons, Goes-comes}
use Rattle.dg_machine.proofs.LimitLemmas.{expects-not, read-parts, session-asks, session-ends, session-found, whole}
use Rattle.dg_machine.proofs.ResultLemmas.{Goes-comes-ok}
use Rattle.dg_machine.proofs.machine.Machine.expect_words.Goals as goal

pub returns-in-Err : goal.returns-in-Err
returns-in-Err c =
    let read = sym c.in-Err.is ∙ (rw c.as_slice.ensures at c.in_ok-expectation.ensures) in
    Goes-comes-ok _ _ _ _ _ _ _ c.fail.ensures (expects-not _ _ _ _ _ read) (omega arith)

pub returns-in_ok-push-in-Ok-2 : goal.returns-in_ok-push-in-Ok-2
unfolding rest go
returns-in_ok-push-in-Ok-2 c =
    let e = whole c.into_parts-timeout.result in
    let read = read-parts c.args.words c.into_parts-timeout.result c.in-Ok.expectation c.into_parts-timeout.ensures (sym c.in-Ok.is ∙ (rw c.as_slice.ensures at c.in_ok-expectation.ensures)) in
    let found = rw c.in-Ok-2.is at c.in_ok-session.ensures in
    let k = all_back c.args.self.now.stack in
    rw (c.in_ok-push-in-Ok-2.ensures, c.requires) (
      session-found c.args.words c.args.depth e read _ _ c.in-Ok-2.session k found,
      found.1.0,
      (rw (weight-cons, weight-kept Go c.args.self.now.state c.seek_session.new.state c.args.self.now.stack found.1) (omega arith)),
    )

pub returns-in-Err-Ends : goal.returns-in-Err-Ends
returns-in-Err-Ends c =
    let e = whole c.into_parts-timeout.result in
    let read = read-parts c.args.words c.into_parts-timeout.result c.in-Ok.expectation c.into_parts-timeout.ensures (sym c.in-Ok.is ∙ (rw c.as_slice.ensures at c.in_ok-expectation.ensures)) in
    let ended = rw c.in-Err-Ends.field-0-is at (rw c.in-Err-Ends.is at c.in_ok-session.ensures) in
    IfOk-weaker c.end_as.result _ _ (λ p h.
    Goes-comes p _ _ _ _ _ _
    (h (expect_with (evaluate c.args.depth) c.args.words) c.args.self.now.state (session-ends c.args.words c.args.depth e read _ _ c.in-Err-Ends.outcome ended))
    refl (rw c.requires (omega arith))) c.end_as.ensures

pub returns-in_ok-ask-in-Err-Asks : goal.returns-in_ok-ask-in-Err-Asks
unfolding rest go
returns-in_ok-ask-in-Err-Asks c =
    let e = whole c.into_parts-timeout.result in
    let read = read-parts c.args.words c.into_parts-timeout.result c.in-Ok.expectation c.into_parts-timeout.ensures (sym c.in-Ok.is ∙ (rw c.as_slice.ensures at c.in_ok-expectation.ensures)) in
    let asks = rw c.in-Err-Asks.field-0-is at (rw c.in-Err-Asks.is at c.in_ok-session.ensures) in
    let at_once = session-asks c.args.words c.args.depth e read _ _ c.in-Err-Asks.question (all_back c.args.self.now.stack) asks in
    rw (c.in_ok-ask-in-Err-Asks.ensures, c.in_ok-push-in-Err-Asks.ensures, c.requires)
    (at_once.0, ap (λ (s : State). s.known) at_once.1, at_once.2)
