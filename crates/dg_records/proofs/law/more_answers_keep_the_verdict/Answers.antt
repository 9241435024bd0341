use Rattle.dg_language.specs.Judge.{judge}
use Rattle.dg_language.proofs.Sources.{run_more}
use Rattle.dg_records.proofs.law.more_answers_keep_the_verdict.Goals as goal

pub returns : goal.returns
returns c = λ test few more m e. run_more (judge test) few more m e
