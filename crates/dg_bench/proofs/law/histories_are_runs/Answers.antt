use Rattle.dg_core.specs.Core.{new_core}
use Rattle.dg_bench.proofs.Steps.{runs}
use Rattle.dg_bench.proofs.law.histories_are_runs.Goals as goal

pub returns : goal.returns
returns c calls core made = runs new_core calls core made
