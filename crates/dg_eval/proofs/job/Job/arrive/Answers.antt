use Rattle.dg_eval.proofs.JobLemmas.{ended-true}
use Rattle.dg_eval.proofs.job.Job.arrive.Goals as goal

pub from_parts-record-requires : goal.from_parts-record-requires
from_parts-record-requires c =
    let came = rw c.in-AtEnd.is at c.requires.arrived in
    rw (came.2.1, came.2.2) (ended-true _ _ _ came.2.0)
