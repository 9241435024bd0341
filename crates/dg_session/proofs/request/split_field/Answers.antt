use Rattle.dg_session.proofs.RequestLemmas.{fields_of-cut_at, fields_of-whole}
use Rattle.dg_session.proofs.request.split_field.Goals as goal

pub returns-in-Some : goal.returns-in-Some
returns-in-Some c = fields_of-cut_at _ _ c.in-Some.ensures.0 c.in-Some.ensures.1

pub returns-in-None : goal.returns-in-None
returns-in-None c = fields_of-whole _ c.in-None.ensures
