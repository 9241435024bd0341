use Rattle.std.proofs.Common.{◌≡◌, take}
use Rattle.dg_living.specs.Replayed.{transcript_of}
use Rattle.dg_live.proofs.sessions.sessions_in.Given as goal

abbrev pub invariant-loop-read : goal.invariant-loop-read
invariant-loop-read l = l.sessions.items ≡ transcript_of (take l.read-index l.reads)
