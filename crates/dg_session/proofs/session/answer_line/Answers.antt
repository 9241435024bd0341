use Rattle.dg_session.proofs.SessionLemmas.{at_err, nothing_of}
use Rattle.dg_session.proofs.session.answer_line.Goals as goal

pub returns-in_err-request-clause-fault : goal.returns-in_err-request-clause-fault
returns-in_err-request-clause-fault g c = at_err _ _ (nothing_of c.args.core.now c.args.line.now (g.W.Write.contents c.args.writer.now))
