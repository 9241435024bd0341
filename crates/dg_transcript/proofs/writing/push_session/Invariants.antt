use Rattle.std.proofs.Common.{◌≡◌, ◌++◌, flat_map, map, take}
use Rattle.dg_transcript.specs.Text.{line_text}
use Rattle.dg_transcript.specs.declared.line.Line.TheVariants as line
use Rattle.dg_transcript.proofs.writing.push_session.Given as goal

abbrev pub invariant-loop-entry : goal.invariant-loop-entry
invariant-loop-entry l = l.out ≡ l.fn.out ++ (line_text (line.Session l.number) ++ flat_map line_text (map line.Said (take l.entry-index l.entries)))
