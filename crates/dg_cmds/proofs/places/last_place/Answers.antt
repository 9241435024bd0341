use Rattle.std.proofs.Common.{sym, ◌∙◌}
use Rattle.std.proofs.lemmas.Bool.{false≢true, eqb-true, eq-eqb}
use Rattle.dg_cmds.proofs.PlaceLemmas.{last_found, last_of_none}
use Rattle.dg_cmds.proofs.places.last_place.Goals as goal

pub returns-then-is_empty : goal.returns-then-is_empty
returns-then-is_empty c = last_of_none c.args.needle.now c.args.text.now (eqb-true _ 0 (sym c.is_empty.ensures ∙ c.if-is_empty.true))

pub returns : goal.returns
returns c =
    last_found c.args.needle.now c.args.text.now c.rfind.result
    (λ e. false≢true (sym c.if-is_empty.false ∙ (c.is_empty.ensures ∙ eq-eqb _ 0 e)))
    c.rfind.ensures
