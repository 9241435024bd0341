use Rattle.dg_language.proofs.Sources.{run_more}
use Rattle.dg_language.specs.Language.{evaluate}
use Rattle.dg_language.proofs.law.more_answers_keep_the_end.Goals as goal

pub returns : goal.returns
returns c = λ depth text s k few more m e. run_more (evaluate depth text s k) few more m e
