use Rattle.dg_words.proofs.GrammarLemmas.Answered.{words_fault_is_told}
use Rattle.dg_words.proofs.grammar.words.what_is_wrong_in_words_is_told.Goals as goal

pub returns : goal.returns
returns c = λ text place fault x y w. words_fault_is_told text place fault x y w
