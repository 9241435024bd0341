use Rattle.std.proofs.Common.{ap, sym, ◌∙◌, arith}
use Rattle.dg_machine.specs.declared.machine.Machine.{Machine}
use Rattle.dg_machine.specs.Meaning.{go, rest}
use Rattle.dg_machine.proofs.MachineLemmas.{weight-cons}
use Rattle.dg_machine.proofs.AwaitingLemmas.{known-acts, reads-end, reads-late, reads-on, reads-output, weight-acted, weight-used}
use Rattle.dg_machine.proofs.ResultLemmas.{Goes-on-ok}
use Rattle.dg_machine.proofs.machine.Machine.read_on.Goals as goal

pub returns-in-Passed : goal.returns-in-Passed
unfolding rest go
returns-in-Passed c =
    let h = rw c.in-Passed.is at c.in_ok-ask.ensures in
    let go_on = ap (λ (m : Machine). m.control) h.3 ∙ c.requires in
    let paid = rw go_on at (weight-used _ _ h.3 h.1) in
    rw (c.in_ok-push-in-Passed.ensures, c.left_of.ensures, go_on)
    (sym (reads-on _ _ _ _ _ h), known-acts _ _ h.1.same, (rw weight-cons (omega (arith, paid))))

pub returns-in-Some : goal.returns-in-Some
returns-in-Some c =
    let h = rw c.in-Answered.is at c.in_ok-ask.ensures in
    let out = rw c.in-Some.is at c.output.ensures in
    let went = rw c.left_of-in-Some.ensures at c.try_output.ensures in
    let paid = weight-used _ _ h.3 h.1 in
    Goes-on-ok _ _ _ _ _ _ _ _ went (reads-output _ _ _ _ _ _ h _ out) (known-acts _ _ h.1.same) (omega (arith, paid))

pub returns-in-Answered : goal.returns-in-Answered
returns-in-Answered c =
    let h = rw c.in-Answered.is at c.in_ok-ask.ensures in
    let out = rw c.in-None.is at c.output.ensures in
    let paid = weight-used _ _ h.3 h.1 in
    Goes-on-ok _ _ _ _ _ _ _ _ c.after_end.ensures (reads-end _ _ _ _ _ _ h out) (known-acts _ _ h.1.same) (omega (arith, paid))

pub returns : goal.returns
returns c =
    let h = rw c.in-Late.is at c.in_ok-ask.ensures in
    let paid = weight-acted _ _ h.2 h.1 in
    let went = rw (c.in_ok-action-in-Late.ensures, c.timeout_action.ensures, c.pairs.ensures) at c.run_action.ensures in
    Goes-on-ok _ _ _ _ _ _ _ _ went (reads-late _ _ c.perform.new.action _ _ h) (known-acts _ _ h.1.same) (omega (arith, paid))
