use Rattle.std.proofs.Common.{rules}
use Rattle.dg_records.proofs.HoldsLemmas.{told-holds}
use Rattle.dg_records.proofs.record.Record.holds_in.Goals as goal

pub returns-clause-test : goal.returns-clause-test
returns-clause-test c = told-holds _ c.args.world.now c.args.self.now (search rules)
