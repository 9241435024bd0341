use Rattle.dg_bench.proofs.Steps.{sum-scratch}
use Rattle.dg_bench.proofs.law.sums_are_from_scratch.Goals as goal

pub returns : goal.returns
returns c = sum-scratch
