use Rattle.std.proofs.Common.{◌≡◌, ◌++◌, drop}
use Rattle.std.specs.List.{slice_split}
use Rattle.dg_cmds.specs.Bytes.{member}
use Rattle.dg_cmds.proofs.ListLemmas.{onto}
use Rattle.dg_cmds.proofs.lists.cut.Given as goal

abbrev pub invariant-loop-byte : goal.invariant-loop-byte
invariant-loop-byte l = l.parts.items ++ onto l.part (slice_split (member l.separators) (drop l.byte-index l.text)) ≡ slice_split (member l.separators) l.text
