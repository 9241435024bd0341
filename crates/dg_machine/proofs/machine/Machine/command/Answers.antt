use Rattle.std.proofs.Common.{refl, sym, arith}
use Rattle.std.proofs.lemmas.Result.{IfOk-weaker}
use Rattle.dg_language.specs.Language.{command, evaluate}
use Rattle.dg_machine.specs.Meaning.{all_back}
use Rattle.dg_machine.proofs.StepLemmas.{command-known-as, command-calls}
use Rattle.dg_machine.proofs.ResultLemmas.{Goes-runs-ok}
use Rattle.dg_machine.proofs.machine.Machine.command.Goals as goal

pub returns-in_default-procedure : goal.returns-in_default-procedure
returns-in_default-procedure c =
    let none = sym (rw c.as_slice.ensures at c.in_default-procedure.ensures) in
    let went = rw c.as_slice-in_default-procedure.ensures at c.known_command.ensures in
    IfOk-weaker c.known_command.result _ _ (λ p. command-known-as _ _ _ _ _ _ p c.in-Some.ensures none) went

pub returns : goal.returns
returns c =
    let some = sym (rw c.as_slice.ensures at c.in-Some-procedure.ensures) in
    let went = rw (c.as_slice-3.ensures, c.in_ok-bindings.ensures, c.as_slice-2.ensures, c.in_ok-body.ensures) at c.call.ensures in
    Goes-runs-ok _ _ _ (λ s. command (evaluate c.args.depth) c.args.words.now s (all_back c.args.self.now.stack)) _ _ _ _ went
    (command-calls _ _ _ _ _ _ _ c.in-Some.ensures some) refl (omega arith)
