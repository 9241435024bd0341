use Rattle.std.proofs.Common.{◌≡◌, take}
use Rattle.dg_index.proofs.MarksLemmas.{looked_at}
use Rattle.dg_index.proofs.marked.look.Given as goal

abbrev pub invariant-loop-place : goal.invariant-loop-place
invariant-loop-place l = l.marks ≡ looked_at l.world (take l.place l.reads) l.fn.marks
