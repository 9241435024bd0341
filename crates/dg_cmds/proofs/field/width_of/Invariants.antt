use Rattle.std.proofs.Common.{◌≡◌, ◌≤◌, min, drop}
use Rattle.dg_cmds.specs.Formats.{number_behind, width_of}
use Rattle.dg_cmds.proofs.field.width_of.Given as goal

abbrev pub invariant-loop-digit : goal.invariant-loop-digit
invariant-loop-digit l = (min (number_behind l.width (drop l.digit-index l.digits)) 1048577 ≡ width_of l.digits) × (l.width ≤ 1048577)
