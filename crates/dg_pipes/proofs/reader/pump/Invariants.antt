use Rattle.rtrb.specs.Ring.{sent, SameProducer}
use Rattle.dg_pipes.specs.Items.{Pumping}
use Rattle.dg_pipes.proofs.reader.pump.Given as goal

abbrev pub invariant-loop : goal.invariant-loop
invariant-loop g l = Pumping (sent l.initial.ring) (sent l.ring) (g.R.Read.remaining l.initial.reader) (g.R.Read.remaining l.reader) × SameProducer l.initial.ring l.ring
