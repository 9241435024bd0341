use Rattle.std.proofs.Common.{◌≡◌, length}
use Rattle.dg_language.specs.Procedures.{bindings}
use Rattle.dg_forms.proofs.ProcedureLemmas.{behind_bindings}
use Rattle.dg_forms.proofs.procedures.bindings.Given as goal

abbrev pub invariant-parameters : goal.invariant-parameters
invariant-parameters l = behind_bindings l.made (bindings l.left l.args) ≡ bindings l.fn.parameters l.fn.args

abbrev pub decreases-parameters : goal.decreases-parameters
decreases-parameters l = length l.left
