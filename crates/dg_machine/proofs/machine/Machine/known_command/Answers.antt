use Rattle.std.proofs.Common.{◌∙◌, sym, ap}
use Rattle.std.proofs.lemmas.Result.{IfOk-weaker}
use Rattle.dg_language.specs.Builtins.{builtin_of, usable}
use Rattle.dg_machine.proofs.StepLemmas.{by-table-as}
use Rattle.dg_machine.proofs.machine.Machine.known_command.Goals as goal

pub returns-in-Some : goal.returns-in-Some
returns-in-Some c =
    let found = sym c.in-Some.is ∙ c.find_builtin.ensures ∙ ap (λ b. usable b (builtin_of c.args.name.now)) c.is_on_board.ensures in
    IfOk-weaker c.builtin.result _ _ (λ p. by-table-as _ _ _ _ _ _ p found) c.builtin.ensures

pub returns-in-Some-Variable : goal.returns-in-Some-Variable
returns-in-Some-Variable c =
    let is = rw c.in-Some-Variable.field-0-is at c.in-Some-Variable.is in
    let found = sym is ∙ c.find_builtin.ensures ∙ ap (λ b. usable b (builtin_of c.args.name.now)) c.is_on_board.ensures in
    IfOk-weaker c.variable.result _ _ (λ p. by-table-as _ _ _ _ _ _ p found) c.variable.ensures
