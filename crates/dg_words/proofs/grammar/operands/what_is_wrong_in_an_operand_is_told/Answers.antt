use Rattle.dg_words.proofs.GrammarLemmas.Answered.{operand_fault_is_told}
use Rattle.dg_words.proofs.grammar.operands.what_is_wrong_in_an_operand_is_told.Goals as goal

pub returns : goal.returns
returns c = λ text at place fault x y w. operand_fault_is_told text at place fault x y w
