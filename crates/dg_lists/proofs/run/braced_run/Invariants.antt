use Rattle.std.proofs.Common.{◌≤◌, ◌-◌}
use Rattle.dg_lists.specs.Braces.{IsBracedRun}
use Rattle.dg_lists.proofs.run.braced_run.Given as goal

abbrev pub invariant-loop-place : goal.invariant-loop-place
invariant-loop-place l = record {
  run : IsBracedRun l.text l.from l.depth (l.place - l.from) l.inside;
  onward : l.from ≤ l.place;
  deep : l.inside ≤ l.place;
}
