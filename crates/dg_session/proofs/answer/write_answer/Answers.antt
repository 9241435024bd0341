use Rattle.dg_session.proofs.SessionLemmas.{at_err, err_is}
use Rattle.dg_session.proofs.WritingLemmas.{front_first, front_second}
use Rattle.dg_session.proofs.answer.write_answer.Goals as goal

pub returns-in_err-write_whole-clause-err : goal.returns-in_err-write_whole-clause-err
returns-in_err-write_whole-clause-err g c =
    at_err _ _ (front_first _ _ _ _ _ c.in_err-write_whole.ensures.err c.requires)

pub returns-clause-err : goal.returns-clause-err
returns-clause-err g c =
    err_is c.write_whole-2.result _ _ (λ front. front_second _ _ _ _ _ _ _ c.in_ok-write_whole.ensures.ok c.requires front c.report.ensures) c.write_whole-2.ensures.err
