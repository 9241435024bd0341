use Rattle.std.proofs.Common.{◌≡◌, ◌≤◌}
use Rattle.rtrb.specs.Ring.{received, SameConsumer}
use Rattle.dg_pipes.specs.Waits.{IsTold}
use Rattle.dg_pipes.proofs.taker.take.Given as goal

abbrev pub invariant-loop : goal.invariant-loop
invariant-loop g l = (received l.ring ≡ received l.initial.ring) × SameConsumer l.initial.ring l.ring × (l.waited ≤ l.limit) × IsTold l.limit l.waited
