use Rattle.std.proofs.Common.{◌≡◌, take}
use Rattle.dg_core.proofs.reply.copies.Given as goal

abbrev pub invariant-loop-test : goal.invariant-loop-test
invariant-loop-test l = l.copies.items ≡ take l.test-index l.test-items
