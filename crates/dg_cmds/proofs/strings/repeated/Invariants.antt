use Rattle.std.proofs.Common.{◌≡◌, ◌++◌, ◌-◌}
use Rattle.std.specs.List.{repeat}
use Rattle.dg_cmds.proofs.strings.repeated.Given as goal

abbrev pub invariant-loop : goal.invariant-loop
invariant-loop l = l.value ++ repeat (l.count - l.counter) l.text ≡ repeat l.count l.text
