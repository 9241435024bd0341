use Rattle.std.proofs.Common.{◌≡◌, ◌≤◌, length}
use Rattle.dg_cmds.specs.Bytes.{member, trimmed_left}
use Rattle.dg_cmds.proofs.bytes.trimmed_left.Given as goal

abbrev pub invariant-loop-first : goal.invariant-loop-first
invariant-loop-first l = (trimmed_left (member l.bytes) l.rest ≡ trimmed_left (member l.fn.bytes) l.fn.text) × (length l.rest ≤ length l.fn.text)

abbrev pub decreases-loop-first : goal.decreases-loop-first
decreases-loop-first l = length l.rest
