use Rattle.std.proofs.Common.{◌≡◌, ◌≤◌, length}
use Rattle.dg_language.specs.Procedures.{longest}
use Rattle.dg_language.specs.State.{bound}
use Rattle.dg_language.proofs.state.write_all.Given as goal

abbrev pub invariant-loop-name : goal.invariant-loop-name
invariant-loop-name l = record {
  bound : bound l.left.items l.variables ≡ bound l.fn.bindings l.fn.variables;
  short : longest l.left.items ≤ 1048576;
}

abbrev pub decreases-loop-name : goal.decreases-loop-name
decreases-loop-name l = length l.left.items
