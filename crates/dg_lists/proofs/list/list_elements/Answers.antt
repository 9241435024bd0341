use Rattle.std.proofs.Common.{IfErr, IfOk, Ok, ap, subst, sym, ◌∙◌}
use Rattle.dg_lists.specs.Grammar.Lists.{ListOf}
use Rattle.dg_lists.specs.Grammar.Spelling.{IsListFault}
use Rattle.dg_lists.proofs.GrammarLemmas.Answered.{MemoryOr, list_fault, list_spelled}
use Rattle.dg_lists.proofs.GrammarLemmas.ListSpelled.{read_list_is_spelled}
use Rattle.dg_lists.proofs.list.list_elements.Goals as goal

pub returns-in-Some-clause-spelled : goal.returns-in-Some-clause-spelled
returns-in-Some-clause-spelled c =
    read_list_is_spelled c.args.list.now c.in_ok-shared.field-0 (c.in-Some.ensures ∙ ap Ok (sym c.in_ok-shared.ensures))

pub returns-clause-spelled : goal.returns-clause-spelled
returns-clause-spelled c =
    subst (λ t. IfOk c.read_list.result (λ xs. ListOf t xs)) c.as_slice.ensures (list_spelled c.as_slice.result.now c.read_list.result c.read_list.ensures)

pub returns-clause-fault : goal.returns-clause-fault
returns-clause-fault c =
    subst (λ t. IfErr c.read_list.result (MemoryOr (λ f. IsListFault f t))) c.as_slice.ensures (list_fault c.as_slice.result.now c.read_list.result c.read_list.ensures)
