use Rattle.dg_words.proofs.GrammarLemmas.CommandSpelled.{read_words_are_spelled}
use Rattle.dg_words.proofs.grammar.words.read_words_are_spelled.Goals as goal

pub returns : goal.returns
returns c = λ text ws h. read_words_are_spelled text ws h
