use Rattle.dg_lists.proofs.GrammarLemmas.Answered.{list_fault, list_spelled}
use Rattle.dg_lists.proofs.RoundTrip.{gives_back}
use Rattle.dg_lists.proofs.list.split_list.Goals as goal

pub returns-clause-canonical : goal.returns-clause-canonical
returns-clause-canonical c = λ xs e. gives_back c.args.text.now c.read_list.result c.read_list.ensures xs e

pub returns-clause-spelled : goal.returns-clause-spelled
returns-clause-spelled c = list_spelled c.args.text.now c.read_list.result c.read_list.ensures

pub returns-clause-fault : goal.returns-clause-fault
returns-clause-fault c = list_fault c.args.text.now c.read_list.result c.read_list.ensures
