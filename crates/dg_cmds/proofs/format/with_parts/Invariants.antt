use Rattle.std.proofs.Common.{◌≡◌, length}
use Rattle.dg_cmds.specs.Formats.{with_parts}
use Rattle.dg_cmds.proofs.format.with_parts.Given as goal

abbrev pub invariant-loop-part : goal.invariant-loop-part
invariant-loop-part l = with_parts l.text l.parts l.values ≡ with_parts l.fn.text l.fn.parts l.fn.values

abbrev pub decreases-loop-part : goal.decreases-loop-part
decreases-loop-part l = length l.parts
