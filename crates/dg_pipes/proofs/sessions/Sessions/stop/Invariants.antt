use Rattle.std.proofs.Common.{◌+◌, ◌≤◌, vec_len, vec_capacity}
use Rattle.dg_pipes.proofs.Places.{Told}
use Rattle.dg_pipes.proofs.sessions.Sessions.stop.Given as goal

abbrev pub invariant-loop-slot : goal.invariant-loop-slot
invariant-loop-slot g l = record {
  told : Told l.fn.self.slots.items l.slots.items l.accounts.items;
  room : vec_len l.accounts + vec_len l.slots ≤ vec_capacity l.accounts;
}

abbrev pub decreases-loop-slot : goal.decreases-loop-slot
decreases-loop-slot g l = vec_len l.slots
