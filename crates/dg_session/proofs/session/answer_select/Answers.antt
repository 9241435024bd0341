use Rattle.std.proofs.Common.{refl, sym, ◌∙◌}
use Rattle.dg_session.proofs.SelectionLemmas.{selects, selects_nothing, selects_short}
use Rattle.dg_session.proofs.session.answer_select.Goals as goal

pub returns-in_default : goal.returns-in_default
returns-in_default c = selects_short _ _ c.args.words.now c.number.result c.number.ensures

pub returns-in-Some : goal.returns-in-Some
returns-in-Some c = selects _ _ c.args.words.now c.in-Some.selection _ (sym c.in-Some.is ∙ c.in-Ok.ensures) c.answer_edit.ensures

pub returns-in-None : goal.returns-in-None
returns-in-None c = selects_nothing _ _ c.args.words.now c.number-in-None.result (sym c.in-None.is ∙ c.in-Ok.ensures) refl c.number-in-None.ensures
