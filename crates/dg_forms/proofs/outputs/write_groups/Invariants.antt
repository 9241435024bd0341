use Rattle.std.proofs.Common.{◌≡◌, ◌+◌, ◌-◌, drop}
use Rattle.dg_language.specs.Expecting.{with_groups}
use Rattle.dg_forms.proofs.outputs.write_groups.Given as goal

abbrev pub invariant-loop-n : goal.invariant-loop-n
invariant-loop-n l = with_groups (9 - l.n) (l.n + 1) l.bytes (drop l.n l.groups) l.state ≡ with_groups 9 1 l.fn.bytes l.fn.groups l.fn.state
