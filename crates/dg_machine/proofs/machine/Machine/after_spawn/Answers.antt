use Rattle.std.proofs.Common.{sym, ◌∙◌, refl, arith}
use Rattle.dg_language.specs.Sessions.{spawned}
use Rattle.dg_machine.proofs.ResultLemmas.{Goes-along-ok}
use Rattle.dg_machine.proofs.machine.Machine.after_spawn.Goals as goal

pub returns-then-is_failure : goal.returns-then-is_failure
unfolding spawned
returns-then-is_failure c =
    let failed = sym c.is_failure.ensures ∙ c.if-is_failure.true in
    let went = rw (c.in_ok-message.ensures, c.program_of.ensures) at c.fail.ensures in
    Goes-along-ok _ _ _ _ _ _ _ _ went (rw failed refl) refl (omega arith)
