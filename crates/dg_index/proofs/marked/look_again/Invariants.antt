use Rattle.std.proofs.Common.{◌≡◌, take}
use Rattle.dg_index.specs.Marks.{looked_again, reads_on}
use Rattle.dg_index.proofs.marked.look_again.Given as goal

abbrev pub invariant-loop-place : goal.invariant-loop-place
invariant-loop-place l = record {
  marks : l.marks ≡ looked_again l.world l.topic (take l.place l.reads) l.fn.marks;
  compared : l.compared ≡ reads_on l.topic (take l.place l.reads);
}
