use Rattle.std.proofs.Common.{◌≡◌, refl, sym, arith}
use Rattle.std.specs.Prelude.{Some, None}
use Rattle.dg_scope.specs.Scopes.{value_of}
use Rattle.dg_machine.specs.Meaning.{all_back, making_with}
use Rattle.dg_compiled.proofs.GatherLemmas.{given-none, given-some}
use Rattle.dg_machine.proofs.ResultLemmas.{Goes-along-ok}
use Rattle.dg_machine.proofs.machine.Machine.add_variable.Goals as goal

pub returns-in_default : goal.returns-in_default
returns-in_default c =
    let s = c.args.self.now.state in
    let k = all_back c.args.self.now.stack in
    let none : value_of s.variables c.args.name.now ≡ None = sym c.in_default.ensures in
    let went = rw c.in_ok-message.ensures at c.fail.ensures in
    Goes-along-ok _ _ _ _ _ _ _ _ went
    (given-none (value_of s.variables c.args.name.now) c.args.name.now s (λ v t. making_with c.args.making c.args.depth v t k) k none) refl (omega arith)

pub returns : goal.returns
returns c =
    let s = c.args.self.now.state in
    let k = all_back c.args.self.now.stack in
    let some : value_of s.variables c.args.name.now ≡ Some c.in-Some.value.now = sym c.in-Some.ensures in
    let went = rw c.in_ok-value.ensures at c.add_value.ensures in
    Goes-along-ok _ _ _ _ _ _ _ _ went
    (given-some (value_of s.variables c.args.name.now) c.args.name.now s (λ v t. making_with c.args.making c.args.depth v t k) k c.in-Some.value.now some) refl
    (omega arith)
