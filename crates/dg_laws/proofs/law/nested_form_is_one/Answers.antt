use Rattle.dg_language.proofs.NestedForms.{one-form}
use Rattle.dg_laws.proofs.law.nested_form_is_one.Goals as goal

pub returns : goal.returns
returns c = one-form
