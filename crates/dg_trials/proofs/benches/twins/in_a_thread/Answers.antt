-- What the threads are given.
use denote.Param.Send.{sendable}
use Rattle.dg_bench.proofs.Crossing.{bench_sync}
use Rattle.dg_trials.proofs.Crossing.{twin_send}
use Rattle.dg_trials.proofs.benches.twins.in_a_thread.Goals as goal

pub join-requires-send-F : goal.join-requires-send-F
join-requires-send-F g c κs within = search (sendable, bench_sync, twin_send) depth 20
