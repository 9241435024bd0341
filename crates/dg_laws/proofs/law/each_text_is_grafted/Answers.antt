use Rattle.dg_laws.proofs.Texts.{evaluate-grafted}
use Rattle.dg_laws.proofs.law.each_text_is_grafted.Goals as goal

pub returns : goal.returns
returns c = evaluate-grafted
