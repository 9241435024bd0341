use Rattle.std.proofs.lemmas.Result.{IfOk-weaker, IfErr-weaker}
use Rattle.dg_bench.proofs.Making.{is_made, is_refused}
use Rattle.dg_bench.proofs.bench.Bench.report.Goals as goal

pub returns-clause-ok : goal.returns-clause-ok
returns-clause-ok g c = IfOk-weaker c.report.result _ _ (λ r h. is_made _ _ _ _ _ _ _ h) c.report.ensures.ok

pub returns-clause-refused : goal.returns-clause-refused
returns-clause-refused g c = IfErr-weaker c.report.result _ _ (λ r h. is_refused _ _ _ _ _ _ _ h) c.report.ensures.refused
