use Rattle.dg_lists.proofs.GrammarLemmas.ListSpelled.{read_list_is_spelled}
use Rattle.dg_lists.proofs.grammar.read_list_is_spelled.Goals as goal

pub returns : goal.returns
returns c = λ text xs h. read_list_is_spelled text xs h
