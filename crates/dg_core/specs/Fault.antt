-- Why a settling gives no report.
use Rattle.std.specs.Prelude.{◌≡◌}
use Rattle.std.specs.List.{Contains}
use Rattle.dg_world.specs.World.{WorldView}
use Rattle.dg_world.specs.declared.test_id.TestId.{TestId}
use Rattle.dg_eval.specs.Lost.{HasReadPattern}
use Rattle.dg_core.specs.Asking.{all_reads}
use Rattle.dg_core.specs.Core.{CoreView, pending}
use Rattle.dg_core.specs.declared.judging_core.CoreFault.{CoreFault}
use Rattle.dg_core.specs.declared.judging_core.CoreFault.TheVariants.{PatternLost, Memory}

-- what a fault tells where a test was judged in a world: it is named where the judging reads a pattern that is answered as read
abbrev pub Blames : TestId → WorldView → CoreFault → Type 0
Blames test w Memory = Unit {0}
Blames test w (PatternLost named) = (named ≡ test) × HasReadPattern (all_reads w test)

-- what a fault tells of the core as the settling began, and of the world as it then stands: the test that it names was
-- pending, and its judging in that world reads a pattern that is answered as read
abbrev pub Tells : CoreView → WorldView → CoreFault → Type 0
Tells old w Memory = Unit {0}
Tells old w (PatternLost test) = Contains (pending old) test × HasReadPattern (all_reads w test)
