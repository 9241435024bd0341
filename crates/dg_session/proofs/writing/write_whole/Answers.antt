use Rattle.std.proofs.Common.{rules, arith}
use Rattle.dg_session.proofs.WritingLemmas.{writes_more, writes_none}
use Rattle.dg_session.proofs.writing.write_whole.Goals.{in-Ok, in-Err+else-ne}
use Rattle.dg_session.proofs.writing.write_whole.Goals as goal

pub loop-preserved : goal.loop-preserved
loop-preserved g c = elim c.match-write.branch [
  | in-Ok w ↦ (search (rules, arith), writes_more _ _ _ _ _ _ _ c.loop.invariant.0 c.loop.invariant.1 w.in-Ok.ensures.bytes w.at-is)
  | in-Err+else-ne w ↦ (search (rules, arith), writes_none _ _ _ _ _ _ c.loop.invariant.1 w.in-Err.ensures.bytes w.at-is)
]
