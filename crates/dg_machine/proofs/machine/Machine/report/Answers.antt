use Rattle.std.proofs.Common.{sym, ◌∙◌, refl, arith}
use Rattle.dg_machine.proofs.ResultLemmas.{Goes-along-ok}
use Rattle.dg_machine.proofs.machine.Machine.report.Goals as goal

pub returns-then-is_failure : goal.returns-then-is_failure
returns-then-is_failure c =
    let failed = sym c.is_failure.ensures ∙ c.if-is_failure.true in
    let went = rw (c.in_ok-message.ensures, c.as_slice.ensures, c.in_ok-id.ensures) at c.fail.ensures in
    Goes-along-ok _ _ _ _ _ _ _ _ went (rw failed refl) refl (omega arith)
