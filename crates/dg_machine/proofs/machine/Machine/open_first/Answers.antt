use Rattle.std.proofs.Common.{◌∙◌, ◌+◌, refl, sym, arith}
use Rattle.dg_language.specs.Judge.{first_file}
use Rattle.dg_machine.specs.Opening.{open_next, opening_weight}
use Rattle.dg_machine.specs.Meaning.{go, rest, back, all_back}
use Rattle.dg_machine.proofs.MachineLemmas.{weight-cons}
use Rattle.dg_machine.proofs.OpeningLemmas.{first-asks, first-known, first-unnamed, weight-pushed}
use Rattle.dg_machine.proofs.ResultLemmas.{Goes-opens-ok}
use Rattle.dg_machine.proofs.machine.Machine.open_first.Goals as goal

pub returns-then-not-is_name : goal.returns-then-not-is_name
unfolding rest go
returns-then-not-is_name c =
    let named = sym (rw c.as_slice.ensures at c.is_name.ensures) ∙ c.if-not-is_name.true in
    rw (c.in_ok-push.ensures, c.requires) (sym (first-unnamed _ _ named _ _), refl, (rw weight-cons (omega arith)))

pub returns-in-Unanswered : goal.returns-in-Unanswered
returns-in-Unanswered c =
    let named = sym (rw c.as_slice.ensures at c.is_name.ensures) ∙ c.if-not-is_name.false in
    let held = rw c.from_valid.ensures at (rw c.in-Unanswered.is at c.in_ok-question.ensures) in
    rw c.in_ok-ask-in-Unanswered.ensures (first-asks _ _ named _ _ _ held, refl, held.1)

pub returns-in-Known-None : goal.returns-in-Known-None
unfolding rest go
returns-in-Known-None c =
    let named = sym (rw c.as_slice.ensures at c.is_name.ensures) ∙ c.if-not-is_name.false in
    let held = rw (c.from_valid.ensures, c.in-Known-None.field-0-is) at (rw c.in-Known-None.is at c.in_ok-question.ensures) in
    rw (c.in_ok-push-in-Known-None.ensures, c.requires) (sym (first-known _ _ named _ _ _ held), refl, (rw weight-cons (omega arith)))

pub returns : goal.returns
unfolding all_back back
returns c =
    let named = sym (rw c.as_slice.ensures at c.is_name.ensures) ∙ c.if-not-is_name.false in
    let held = rw (c.from_valid.ensures, c.in-Known-Some.field-0-is) at (rw c.in-Known-Some.is at c.in_ok-question.ensures) in
    let went = rw c.in_ok-push-in-Known-Some.ensures at c.enter.ensures in
    Goes-opens-ok _ (first_file c.args.name (open_next c.args.next)) (opening_weight c.args.next + 6) _ _ _ c.args.self.now _ went (first-known _ _ named _ _ _ held) refl (rw weight-pushed (omega arith))
