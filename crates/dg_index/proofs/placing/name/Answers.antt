use Rattle.std.proofs.Common.{◌≡◌, ◌∙◌, ap, sym, subst, length}
use Rattle.std.specs.Prelude.{unwrap_or}
use Rattle.indexmap.specs.IndexMap.{index_of_by}
use Rattle.dg_world.specs.Test.{same_test}
use Rattle.dg_index.specs.Index.{NamesReads}
use Rattle.dg_index.proofs.IndexLemmas.{if_well}
use Rattle.dg_index.proofs.placing.name.Goals as goal
use Rattle.dg_index.proofs.placing.name.Goals.{in-Some, in-None}

pub returns-clause-named : goal.returns-clause-named
returns-clause-named c =
    let records = c.args.records.now in
    let newest = c.args.newest.now in
    let found = c.get_index_of.ensures.index ∙ ap (λ t. index_of_by (same_test t) records) c.test.ensures in
    let at : c.match-get_index_of.at ≡ unwrap_or (index_of_by (same_test newest.test) records) (length records.entries) =
    elim c.match-get_index_of.branch [
      | in-Some u ↦ u.at-is ∙ ap (λ o. unwrap_or o (length records.entries)) (sym u.in-Some.is ∙ found)
      | in-None u ↦ u.at-is ∙ u.len-at.ensures.len ∙ ap (λ o. unwrap_or o (length records.entries)) (sym u.in-None.is ∙ found)
    ] in
    if_well c.copy.result _ (
    subst (NamesReads c.name_reads.new.self (unwrap_or (index_of_by (same_test newest.test) records) (length records.entries))) c.reads.ensures
    (subst (λ place. NamesReads c.name_reads.new.self place c.reads.result.now) at c.in_ok-name_reads.ensures.named)
    )
