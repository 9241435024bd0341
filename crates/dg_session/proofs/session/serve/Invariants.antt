use Rattle.std.proofs.Common.{◌+◌, if◌then◌else◌}
use Rattle.dg_session.proofs.SessionLemmas.{Progress}
use Rattle.dg_session.proofs.session.serve.Given as goal

abbrev pub invariant-loop-is_done : goal.invariant-loop-is_done
invariant-loop-is_done g l = Progress (g.R.Read.remaining l.initial.reader) (g.R.Read.remaining l.reader) (g.W.Write.contents l.initial.writer) (g.W.Write.contents l.writer) l.initial.core l.core l.limit l.left l.is_done

abbrev pub decreases-loop-is_done : goal.decreases-loop-is_done
decreases-loop-is_done g l = l.left + (if l.is_done then 0 else 1)
