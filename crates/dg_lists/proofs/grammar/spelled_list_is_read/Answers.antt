use Rattle.dg_lists.proofs.GrammarLemmas.ListRead.{spelled_list_is_read}
use Rattle.dg_lists.proofs.grammar.spelled_list_is_read.Goals as goal

pub returns : goal.returns
returns c = λ text xs h. spelled_list_is_read text xs h
