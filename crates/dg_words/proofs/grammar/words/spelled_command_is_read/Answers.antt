use Rattle.dg_words.proofs.GrammarLemmas.WordRead.{spelled_command_is_read}
use Rattle.dg_words.proofs.grammar.words.spelled_command_is_read.Goals as goal

pub returns : goal.returns
returns c = λ text at n ws h. spelled_command_is_read text at n ws h
