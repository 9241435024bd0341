use Rattle.std.proofs.Common.{◌∙◌, refl, sym, arith}
use Rattle.dg_machine.specs.Meaning.{back, all_back}
use Rattle.dg_machine.proofs.MachineLemmas.{Goes-along}
use Rattle.dg_forms.proofs.ProcedureLemmas.{within-true, within-false}
use Rattle.dg_machine.proofs.ProcedureLemmas.{known-entered, weight-entered}
use Rattle.dg_machine.proofs.machine.Machine.call.Goals as goal

pub returns-then-is_too_long : goal.returns-then-is_too_long
returns-then-is_too_long c =
    let long = sym (rw c.as_slice.ensures at c.is_too_long.ensures) ∙ c.if-is_too_long.true in
    rw (c.cut.ensures.same, c.in-Some.is) (within-true _ _ _ long ∙ c.in_ok-closing.ensures.ends, refl)

pub returns : goal.returns
unfolding all_back back
returns c =
    let short = sym (rw c.as_slice.ensures at c.is_too_long.ensures) ∙ c.if-is_too_long.false in
    let went = rw (c.in_ok-push.ensures, c.in_ok-enter.ensures, c.requires) at c.in_ok-pace-2.ensures in
    rw (c.in-Some.is, c.requires) (Goes-along _ _ _ _ _ _ _ _ went (within-false _ _ _ short) (known-entered _ _) (rw weight-entered (omega arith)))
