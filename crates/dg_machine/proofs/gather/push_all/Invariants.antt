use Rattle.std.proofs.Common.{◌≡◌, ◌++◌, take}
use Rattle.dg_machine.proofs.gather.push_all.Given as goal

abbrev pub invariant-loop-value : goal.invariant-loop-value
invariant-loop-value l = l.list ≡ l.fn.list ++ take l.value-index l.values
