use Rattle.dg_laws.proofs.Texts.{evaluate-grafted}
use Rattle.dg_laws.proofs.Conclusions.{Grafted-conclusion}
use Rattle.dg_laws.proofs.law.each_text_comes_to_a_conclusion.Goals as goal

pub returns : goal.returns
returns c = λ depth text s look. Grafted-conclusion (evaluate-grafted depth text s) look
