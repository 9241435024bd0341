use Rattle.std.proofs.Common.{ap, refl, arith}
use Rattle.std.proofs.lemmas.Result.{IfOk-weaker}
use Rattle.dg_language.specs.State.{stepped}
use Rattle.dg_language.specs.Evaluation.{if_done}
use Rattle.dg_machine.specs.Meaning.{back, all_back, making_with}
use Rattle.dg_machine.specs.declared.machine.Machine.{Machine}
use Rattle.dg_machine.proofs.MachineLemmas.{Comes-known, known-stepped}
use Rattle.dg_machine.proofs.GatherLemmas.{Comes-along, weight-gathering}
use Rattle.dg_machine.proofs.SettlingLemmas.{asks-step, weight-settled}
use Rattle.dg_machine.proofs.ResultLemmas.{Goes-comes-ok}
use Rattle.dg_machine.proofs.machine.Machine.run_script.Goals as goal

pub returns-in-Some : goal.returns-in-Some
returns-in-Some c =
    let old = c.args.self.now in
    let k = all_back old.stack in
    let told = c.in_ok-value.ensures in
    let stack = ap (λ (m : Machine). m.stack) told.same in
    let control = ap (λ (m : Machine). m.control) told.same in
    let after = rw c.in-Some.is at told.after in
    let comes = rw c.in-Some.is at told.some in
    let less = weight-settled old.control old.stack old.state (stepped old.state) (asks-step old.state) in
    let went = rw (stack, control, after) at c.add_and_use.ensures in
    IfOk-weaker c.add_and_use.result _ _
    (λ p h. Comes-along p _ _ _ _ _ _ (Comes-known p _ _ _ _ _ h (known-stepped old.state)) (comes (if_done (λ v s. making_with c.args.making c.args.depth v s k) k)) (omega (arith, less)))
    went

pub returns : goal.returns
unfolding all_back back
returns c =
    let told = c.in_ok-value.ensures in
    let stack = ap (λ (m : Machine). m.stack) told.same in
    let control = ap (λ (m : Machine). m.control) told.same in
    let after = rw c.in_default.is at told.after in
    let went = rw (c.in_ok-push.ensures, stack, control, after) at c.enter.ensures in
    Goes-comes-ok _ _ _ _ _ _ _ went refl (rw (c.requires, weight-gathering) (omega arith))
