use Rattle.std.proofs.Common.{◌≡◌, ◌++◌, take}
use Rattle.dg_world.specs.Tests.{tests_on}
use Rattle.dg_world.proofs.world.push_tests.Given as goal

abbrev pub invariant-loop-script : goal.invariant-loop-script
invariant-loop-script l = l.tests.items ≡ l.initial.tests.items ++ tests_on (take l.script-index l.scripts) l.board
