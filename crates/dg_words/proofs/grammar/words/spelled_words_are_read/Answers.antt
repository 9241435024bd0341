use Rattle.dg_words.proofs.GrammarLemmas.WordRead.{spelled_words_are_read}
use Rattle.dg_words.proofs.grammar.words.spelled_words_are_read.Goals as goal

pub returns : goal.returns
returns c = λ text ws h. spelled_words_are_read text ws h
