use Rattle.std.proofs.Common.{◌≡◌}
use Rattle.rtrb.specs.Ring.{sent, SameProducer}
use Rattle.dg_pipes.proofs.reader.put.Given as goal

abbrev pub invariant-loop : goal.invariant-loop
invariant-loop g l = (sent l.ring ≡ sent l.initial.ring) × (l.item ≡ l.initial.item) × SameProducer l.initial.ring l.ring
