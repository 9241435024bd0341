use Rattle.dg_index.proofs.MarksLemmas.{told-stale}
use Rattle.dg_index.proofs.numbers.is_stale.Goals as goal

pub returns-in-Elsewhere : goal.returns-in-Elsewhere
returns-in-Elsewhere c = told-stale c.agrees.result c.args.world.now c.args.read.now c.agrees.ensures
