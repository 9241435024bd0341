use Rattle.std.proofs.Common.{rules, arith, ◌≤◌}
use Rattle.dg_session.proofs.ReportLemmas.{rises, reported}
use Rattle.dg_session.proofs.session.answer_report.Goals as goal

pub overflow_sub-result : goal.overflow_sub-result
overflow_sub-result c =
    let small : c.evaluations-before.result ≤ 18446744073709551615 = search (rules, arith) in
    rises _ _ _ _ c.evaluations-before.ensures c.evaluations.ensures c.in-Ok.ensures.settles small

pub returns-in-Ok : goal.returns-in-Ok
returns-in-Ok c =
    reported _ _ _ _ _ _ c.evaluations-before.ensures c.evaluations.ensures c.in-Ok.ensures.grown c.in-Ok.ensures.settles c.in-Ok.ensures.sum
