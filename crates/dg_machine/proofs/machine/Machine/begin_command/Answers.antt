use Rattle.std.proofs.Common.{ap, arith}
use Rattle.dg_language.specs.Evaluation.{Then}
use Rattle.dg_compiled.specs.Making.{making_on}
use Rattle.dg_machine.proofs.MachineLemmas.{all_back-over, weight-cons}
use Rattle.dg_machine.proofs.ResultLemmas.{Comes-along-ok}
use Rattle.dg_machine.proofs.machine.Machine.begin_command.Goals as goal

pub returns-then-is_over-clause-comes : goal.returns-then-is_over-clause-comes
returns-then-is_over-clause-comes c =
    let over = rw c.if-is_over.true at c.is_over.ensures in
    let same = all_back-over c.args.depth c.args.commands c.args.self.now.stack over in
    Comes-along-ok _ _ _ _ _ _ _ c.go_on.ensures
    (ap (λ (k : Then). making_on c.args.making c.args.depth c.args.self.now.state k) same) (rw (c.requires, weight-cons) (omega arith))

pub returns-clause-comes : goal.returns-clause-comes
returns-clause-comes c = rw (c.in_ok-push.ensures, c.requires) at c.go_on-2.ensures
