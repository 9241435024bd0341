use Rattle.dg_words.proofs.GrammarLemmas.Answered.{command_fault_is_told}
use Rattle.dg_words.proofs.grammar.words.what_is_wrong_in_a_command_is_told.Goals as goal

pub returns : goal.returns
returns c = λ text at place fault x y w. command_fault_is_told text at place fault x y w
