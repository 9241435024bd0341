use Rattle.dg_words.proofs.GrammarLemmas.Answered.{operand_fault_is_placed}
use Rattle.dg_words.proofs.grammar.operands.operand_fault_has_its_place.Goals as goal

pub returns : goal.returns
returns c = λ text at fault e. operand_fault_is_placed text at fault e
