use Rattle.dg_words.proofs.GrammarLemmas.Answered.{words_fault_is_placed}
use Rattle.dg_words.proofs.grammar.words.words_fault_has_its_place.Goals as goal

pub returns : goal.returns
returns c = λ text fault e. words_fault_is_placed text fault e
