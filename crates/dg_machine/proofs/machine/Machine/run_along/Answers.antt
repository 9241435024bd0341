use Rattle.std.proofs.Common.{◌∙◌, sym}
use Rattle.dg_machine.proofs.AlongLemmas.{told-one}
use Rattle.dg_machine.proofs.machine.Machine.run_along.Goals as goal

pub returns-in-AtEnd : goal.returns-in-AtEnd
returns-in-AtEnd g c = (c.questions.self, c.questions.invariant, rw c.in-AtEnd.is at c.in_ok-ask.ensures, tt)

pub returns-in-Lost : goal.returns-in-Lost
returns-in-Lost g c = (c.questions.self, c.questions.invariant, rw c.in-Lost.is at c.in_ok-ask.ensures, tt)

pub questions-preserved : goal.questions-preserved
questions-preserved g c =
    let come = rw c.in-AtQuestion.is at c.in_ok-ask.ensures in
    let given = rw c.get.ensures at (sym c.in_ok-answer.ensures.given ∙ c.in-Some.is) in
    let fit = rw (c.in-Some.is, c.get.ensures) at c.in_ok-answer.ensures.fits in
    let holds = rw (c.in-Some.is, c.get.ensures) at c.in_ok-answer.ensures.holds in
    rw (c.in_ok-learn-in-Some.ensures, c.into_inner.ensures)
    (told-one _ _ _ c.questions.self c.run_on.new.self c.in-AtQuestion.ask c.in-Some.answer c.questions.invariant come given fit holds)

pub questions-preserved-in_ok-learn-in-Some : goal.questions-preserved-in_ok-learn-in-Some
questions-preserved-in_ok-learn-in-Some g c =
    let come = rw c.in-AtQuestion.is at c.in_ok-ask.ensures in
    let given = rw c.get.ensures at (sym c.in_ok-answer.ensures.given ∙ c.in-Some.is) in
    let fit = rw (c.in-Some.is, c.get.ensures) at c.in_ok-answer.ensures.fits in
    let holds = rw (c.in-Some.is, c.get.ensures) at c.in_ok-answer.ensures.holds in
    rw (c.in_ok-learn-in-Some.ensures, c.into_inner.ensures)
    (told-one _ _ _ c.questions.self c.run_on.new.self c.in-AtQuestion.ask c.in-Some.answer c.questions.invariant come given fit holds)

pub returns-in-None : goal.returns-in-None
returns-in-None g c =
    let come = rw c.in-AtQuestion.is at c.in_ok-ask.ensures in
    let none = rw c.get.ensures at (sym c.in_ok-answer.ensures.given ∙ c.in-None.is) in
    (c.questions.self, c.questions.invariant, come, none)
