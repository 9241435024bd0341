use Rattle.dg_results.specs.Tally.{tally_of}
use Rattle.dg_results.proofs.verdict.Verdict.tally.Goals as goal

pub returns : goal.returns
unfolding tally_of
returns c = cc
