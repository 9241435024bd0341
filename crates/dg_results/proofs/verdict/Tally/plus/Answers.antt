use Rattle.std.proofs.Common.{refl}
use Rattle.dg_results.specs.Tally.{sum_of}
use Rattle.dg_results.proofs.verdict.Tally.plus.Goals as goal

pub returns : goal.returns
unfolding sum_of
returns c = refl
