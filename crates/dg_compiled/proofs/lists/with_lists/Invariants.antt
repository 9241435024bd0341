use Rattle.std.proofs.Common.{◌≡◌}
use Rattle.dg_compiled.proofs.lists.with_lists.Given as goal

abbrev pub invariant-loop-word : goal.invariant-loop-word
invariant-loop-word l = l.all ≡ l.yielded
