use Rattle.std.proofs.Common.{sym, ◌∙◌}
use Rattle.std.proofs.lemmas.Bool.{false≢true, eqb-true, eq-eqb}
use Rattle.dg_cmds.proofs.PlaceLemmas.{first_found, first_of_none}
use Rattle.dg_cmds.proofs.places.first_place.Goals as goal

pub returns-then-is_empty-clause-value : goal.returns-then-is_empty-clause-value
returns-then-is_empty-clause-value c = first_of_none c.args.needle.now c.args.text.now (eqb-true _ 0 (sym c.is_empty.ensures ∙ c.if-is_empty.true))

pub returns-clause-value : goal.returns-clause-value
returns-clause-value c =
    first_found c.args.needle.now c.args.text.now c.find.result
    (λ e. false≢true (sym c.if-is_empty.false ∙ (c.is_empty.ensures ∙ eq-eqb _ 0 e)))
    c.find.ensures
