use Rattle.std.proofs.Common.{◌≡◌, ◌++◌, ◌-◌, ◌≤◌, length}
use Rattle.dg_language.specs.Language.{commands_at}
use Rattle.dg_compiled.proofs.script.commands_of.Given as goal

abbrev pub invariant-commands : goal.invariant-commands
invariant-commands l = (l.commands ++ commands_at l.fn.text l.at ≡ commands_at l.fn.text 0) × (l.at ≤ length l.fn.text)

abbrev pub decreases-commands : goal.decreases-commands
decreases-commands l = length l.fn.text - l.at
