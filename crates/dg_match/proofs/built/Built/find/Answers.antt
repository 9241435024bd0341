use Rattle.dg_match.proofs.WithinLemmas.{regex_lies}
use Rattle.dg_match.proofs.built.Built.find.Goals as goal

pub returns-clause-within : goal.returns-clause-within
returns-clause-within c = regex_lies _ _ c.in_ok-found.found c.in_ok-found.ensures
