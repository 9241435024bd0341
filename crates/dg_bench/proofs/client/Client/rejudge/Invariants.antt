use Rattle.std.proofs.Common.{◌≡◌}
use Rattle.dg_bench.proofs.client.Client.rejudge.Given as goal

abbrev pub invariant-turns : goal.invariant-turns
invariant-turns g l = l.job.test ≡ l.fn.test
