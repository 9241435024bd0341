use Rattle.std.proofs.Common.{take, ◌≡◌, ◌+◌, length, sum_by}
use Rattle.std.specs.List.{AllByRecursion}
use Rattle.dg_transcript.specs.Limits.{IsSession}
use Rattle.dg_transcript.proofs.limits.are_transcript.Given as goal

abbrev pub invariant-loop-session : goal.invariant-loop-session
invariant-loop-session l = record {
  each : AllByRecursion IsSession (take l.session-index l.sessions);
  left : l.room + sum_by length (take l.session-index l.sessions) ≡ 65536;
}
