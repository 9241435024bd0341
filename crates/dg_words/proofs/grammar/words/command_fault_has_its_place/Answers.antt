use Rattle.dg_words.proofs.GrammarLemmas.Answered.{command_fault_is_placed}
use Rattle.dg_words.proofs.grammar.words.command_fault_has_its_place.Goals as goal

pub returns : goal.returns
returns c = λ text at fault e. command_fault_is_placed text at fault e
