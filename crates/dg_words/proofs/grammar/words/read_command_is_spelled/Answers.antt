use Rattle.dg_words.proofs.GrammarLemmas.CommandSpelled.{read_command_is_spelled}
use Rattle.dg_words.proofs.grammar.words.read_command_is_spelled.Goals as goal

pub returns : goal.returns
returns c = λ text at next ws h. read_command_is_spelled text at next ws h
