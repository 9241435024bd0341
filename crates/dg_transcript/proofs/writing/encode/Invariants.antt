use Rattle.std.proofs.Common.{◌≡◌, ◌++◌, flat_map, take, length, ◌≤◌}
use Rattle.std.specs.Prelude.{codes}
use Rattle.dg_transcript.specs.Text.{line_text, sessions_lines}
use Rattle.dg_transcript.proofs.writing.encode.Given as goal

abbrev pub invariant-loop-session : goal.invariant-loop-session
invariant-loop-session l = record {
  so_far : l.out ≡ codes "dejagnu-transcript 1\n" ++ flat_map line_text (sessions_lines 1 (take l.session-index l.session-items));
  count : l.number ≡ l.session-index;
  few : length l.session-items ≤ 64;
}
