use Rattle.std.proofs.Common.{◌≡◌, drop}
use Rattle.dg_language.specs.Procedures.{parameters}
use Rattle.dg_forms.proofs.ProcedureLemmas.{behind_parameters}
use Rattle.dg_forms.proofs.procedures.parameters.Given as goal

abbrev pub invariant-loop-text : goal.invariant-loop-text
invariant-loop-text l = behind_parameters l.made (parameters (drop l.text-index l.texts)) ≡ parameters l.fn.texts
