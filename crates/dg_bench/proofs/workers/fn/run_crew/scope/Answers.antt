-- What the threads are given.
use denote.Param.Send.{sendable}
use Rattle.dg_bench.proofs.Crossing.{crew_sync, pass_send}
use Rattle.dg_bench.proofs.workers.fn.run_crew.scope.Goals as goal

pub spawn-requires-send-F : goal.spawn-requires-send-F
spawn-requires-send-F g c κs within = search (sendable, crew_sync, pass_send) depth 20
