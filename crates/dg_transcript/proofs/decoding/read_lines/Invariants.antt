use Rattle.std.proofs.Common.{◌≡◌, take, drop, length, []}
use Rattle.bstr.specs.Text.{lines_of}
use Rattle.dg_transcript.specs.Lines.{Say}
use Rattle.dg_transcript.proofs.decoding.read_lines.Given as goal

abbrev pub invariant-loop-line : goal.invariant-loop-line
invariant-loop-line l = record {
  say : Say [] (take (length l.lines) (lines_of l.fn.text)) l.lines;
  rest : drop (length l.lines) (lines_of l.fn.text) ≡ l.line-iterator;
}
