use Rattle.std.proofs.Common.{◌∙◌, ◌++◌, refl, ap, arith}
use Rattle.std.specs.Prelude.{codes}
use Rattle.dg_language.specs.Evaluation.{quoted}
use Rattle.dg_language.specs.Judge.{open_script}
use Rattle.dg_machine.proofs.OpeningLemmas.{script-asks, script-known}
use Rattle.dg_machine.proofs.ResultLemmas.{Goes-opens-ok}
use Rattle.dg_machine.proofs.machine.Machine.open_script.Goals as goal

pub returns-in_ok-ask-in-Unanswered : goal.returns-in_ok-ask-in-Unanswered
returns-in_ok-ask-in-Unanswered c =
    let held = rw (c.script.ensures ∙ ap (λ t. t.script) c.test.ensures) at (rw c.in-Unanswered.is at c.in_ok-question.ensures) in
    rw c.in_ok-ask-in-Unanswered.ensures (script-asks _ _ _ held, refl, held.1)

pub returns-in_ok-message-in-Known-None : goal.returns-in_ok-message-in-Known-None
returns-in_ok-message-in-Known-None c =
    let held = rw (c.script.ensures ∙ ap (λ t. t.script) c.test.ensures) at (rw c.in-Known-None.field-0-is at (rw c.in-Known-None.is at c.in_ok-question.ensures)) in
    let message = c.in_ok-message-in-Known-None.ensures ∙ ap (λ n. codes "couldn't read script " ++ quoted n) (c.as_slice.ensures.bytes ∙ c.script-in-Known-None.ensures ∙ ap (λ t. t.script) c.test-in-Known-None.ensures) in
    let went = rw message at c.fail.ensures in
    Goes-opens-ok _ open_script _ _ _ _ _ _ went (script-known _ _ _ held) refl (omega arith)

pub returns-in-Known-Some : goal.returns-in-Known-Some
returns-in-Known-Some c =
    let held = rw (c.script.ensures ∙ ap (λ t. t.script) c.test.ensures) at (rw c.in-Known-Some.field-0-is at (rw c.in-Known-Some.is at c.in_ok-question.ensures)) in
    Goes-opens-ok _ open_script _ _ _ _ _ _ c.enter.ensures (script-known _ _ _ held) refl (omega arith)
