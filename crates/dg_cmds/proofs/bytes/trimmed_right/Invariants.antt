use Rattle.std.proofs.Common.{◌≡◌, length}
use Rattle.dg_cmds.specs.Bytes.{member, trimmed_right}
use Rattle.dg_cmds.proofs.bytes.trimmed_right.Given as goal

abbrev pub invariant-loop-last : goal.invariant-loop-last
invariant-loop-last l = trimmed_right (member l.bytes) l.rest ≡ trimmed_right (member l.fn.bytes) l.fn.text

abbrev pub decreases-loop-last : goal.decreases-loop-last
decreases-loop-last l = length l.rest
