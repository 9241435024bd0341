use Rattle.dg_lists.proofs.GrammarLemmas.ListTold.{what_is_wrong_is_told}
use Rattle.dg_lists.proofs.grammar.what_is_wrong_in_a_list_is_told.Goals as goal

pub returns : goal.returns
returns c = λ text place fault x y u. what_is_wrong_is_told text place fault x y u
