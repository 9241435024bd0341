use Rattle.std.proofs.lemmas.Result.{IfOk-weaker, IfErr-weaker}
use Rattle.dg_bench.specs.Refusals.{never}
use Rattle.dg_bench.proofs.Making.{is_refused}
use Rattle.dg_bench.proofs.Working.{is_recalled}
use Rattle.dg_bench.proofs.bench.Bench.transcript.Goals as goal

pub returns-clause-ok : goal.returns-clause-ok
returns-clause-ok g c = IfOk-weaker c.transcript.result _ _ (λ r h. is_recalled _ _ _ _ _ h) c.transcript.ensures.ok

pub returns-clause-refused : goal.returns-clause-refused
returns-clause-refused g c = IfErr-weaker c.transcript.result _ _ (λ r h. is_refused never 0 _ _ _ _ _ (h 0)) c.transcript.ensures.refused
