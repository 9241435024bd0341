use Rattle.dg_core.proofs.EventLemmas.{reports-after}
use Rattle.dg_core.proofs.law.reports_after_events_are_from_scratch.Goals as goal

pub returns : goal.returns
returns c = reports-after
