use Rattle.std.proofs.Common.{subst}
use Rattle.runtest.specs.Runs.{HasSelected}
use Rattle.runtest.proofs.Reporting.{reported}
use Rattle.runtest.proofs.run.run_over.Goals as goal

pub returns : goal.returns
returns g c =
    let pass = c.in_ok-pass.pass in
    let selected = subst (λ s. HasSelected s pass) c.into_selection.ensures c.in_ok-pass.ensures in
    reported c.args.plan.selection pass c.in_ok-pass-2.pass c.in_ok-pass-2.report c.in_ok-pass-2.status selected c.sums_are_from_scratch.ensures c.in_ok-pass-2.ensures
