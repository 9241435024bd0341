use Rattle.std.proofs.Common.{inr, sym, subst}
use Rattle.dg_bench.specs.Refusals.{SeesMore}
use Rattle.dg_bench.proofs.Working.{made_on, refused_on}
use Rattle.dg_bench.proofs.workers.run_workers.Goals as goal

pub returns-in-Err-run_crew-clause-fault : goal.returns-in-Err-run_crew-clause-fault
returns-in-Err-run_crew-clause-fault g c = (inr (subst (SeesMore c.args.pass) (sym c.twin.ensures.same) c.in-Ok.ensures.ok.0), c.of_worker.ensures)

pub returns-in-Ok-report-clause-ok : goal.returns-in-Ok-report-clause-ok
returns-in-Ok-report-clause-ok g c =
    let seen = subst (SeesMore c.args.pass) (sym c.twin.ensures.same) c.in-Ok.ensures.ok.0 in
    (c.in-Ok-report._receipt, made_on c.args.pass c.twin.new.self c.in-Ok-report.pass c.in-Ok-report._receipt _ seen c.in-Ok-report.ensures.ok)

pub returns-clause-fault : goal.returns-clause-fault
returns-clause-fault g c =
    let seen = subst (SeesMore c.args.pass) (sym c.twin.ensures.same) c.in-Ok.ensures.ok.0 in
    (inr (refused_on c.args.pass c.twin.new.self c.in-Err-report.pass c.in-Err-report.refusal seen c.in-Err-report.ensures.refused), c.of_refusal-in-Err-report.ensures)
