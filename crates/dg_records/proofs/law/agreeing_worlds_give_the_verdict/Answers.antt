use Rattle.dg_records.proofs.HoldsLemmas.{agreeing-verdict}
use Rattle.dg_records.proofs.law.agreeing_worlds_give_the_verdict.Goals as goal

pub returns : goal.returns
returns c = agreeing-verdict
