use Rattle.std.proofs.Common.{sym, ◌∙◌}
use Rattle.std.proofs.lemmas.Bool.{eqb-true}
use Rattle.std.proofs.lemmas.List.{nil_from_length}
use Rattle.dg_glob.proofs.SearchLemmas.{end_leaves}
use Rattle.dg_glob.proofs.search.left_at_end.Goals as goal
use Rattle.dg_glob.proofs.search.left_at_end.Goals.{then-not-whole, else-not-whole}

pub returns-then-is_empty : goal.returns-then-is_empty
returns-then-is_empty c = end_leaves c.args.whole c.args.text.now (elim c.if-not-whole.branch [
  | then-not-whole w ↦ λ holds. absurd (let e = sym w.if-not-whole.true ∙ holds in cc)
  | else-not-whole w ↦ λ holds. nil_from_length c.args.text.now (eqb-true _ 0 (sym w.is_empty.ensures ∙ sym w.value-is ∙ c.if-is_empty.true))
])
