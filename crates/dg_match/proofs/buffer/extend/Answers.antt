use Rattle.std.proofs.Common.{rules}
use Rattle.dg_match.proofs.BufferLemmas.{no_nulls}
use Rattle.dg_match.proofs.buffer.extend.Goals as goal

pub returns-clause-ok : goal.returns-clause-ok
returns-clause-ok c = rw (no_nulls c.args.chunk.now c.in_default.ensures) (search rules)
