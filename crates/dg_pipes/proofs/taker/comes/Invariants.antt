use Rattle.std.proofs.Common.{◌≡◌, ◌⊎◌, length}
use Rattle.rtrb.specs.Ring.{known_items, received, SameConsumer}
use Rattle.dg_pipes.proofs.taker.comes.Given as goal

abbrev pub invariant-loop : goal.invariant-loop
invariant-loop l = (received l.ring ≡ received l.initial.ring) × SameConsumer l.initial.ring l.ring × ((l.counter ≡ 0) ⊎ (length (known_items l.ring) ≡ 0))
