use Rattle.dg_lists.proofs.GrammarLemmas.ListKinds.{list_fault_has_its_place}
use Rattle.dg_lists.proofs.grammar.list_fault_has_its_place.Goals as goal

pub returns : goal.returns
returns c = λ text fault e. list_fault_has_its_place text fault e
