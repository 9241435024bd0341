use Rattle.dg_words.proofs.GrammarLemmas.OperandRead.{spelled_operand_is_read}
use Rattle.dg_words.proofs.grammar.operands.spelled_operand_is_read.Goals as goal

pub returns : goal.returns
returns c = λ text at n ps h. spelled_operand_is_read text at n ps h
