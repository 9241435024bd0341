use Rattle.clap.specs.Words.{found_of, rows_of}
use Rattle.dg_line.proofs.PlanLemmas.{fault_by_rows}
use Rattle.dg_line.proofs.plan.plan_of.Goals as goal

pub returns-in-Ok-clause-err : goal.returns-in-Ok-clause-err
returns-in-Ok-clause-err c =
    fault_by_rows _ c.is_bare.result (rows_of (found_of c.in-Ok.matches)) c.plan_by.result c.in-Ok.ensures.fails c.is_bare.ensures c.in-Ok.ensures.matches
    c.plan_by.ensures.err
