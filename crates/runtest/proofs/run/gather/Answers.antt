use Rattle.std.proofs.Common.{sym, subst}
use Rattle.runtest.specs.Runs.{HasSelected}
use Rattle.runtest.proofs.Reporting.{seen_keeps}
use Rattle.runtest.proofs.run.gather.Goals as goal

pub returns : goal.returns
returns g c =
    let selection = c.args.selection in
    let listed = seen_keeps c.take_suite.new.suite.pass c.tests.new.self.pass c.in_ok-tests.ensures selection c.in_ok-take_suite.ensures in
    subst (HasSelected selection) (sym c.into_pass.ensures) (c.in_ok-read.ensures selection listed)
