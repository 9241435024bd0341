use Rattle.dg_words.proofs.GrammarLemmas.Answered.{open_operand_misses}
use Rattle.dg_words.proofs.grammar.operands.open_operand_misses_its_inmost_end.Goals as goal

pub returns : goal.returns
returns c = λ text at k ks o. open_operand_misses text at k ks o
