use Rattle.std.proofs.Common.{take}
use Rattle.dg_core.specs.Lineup.{OpensAt}
use Rattle.dg_core.proofs.openings.Openings.open_all.Given as goal

abbrev pub invariant-loop-place : goal.invariant-loop-place
invariant-loop-place l = OpensAt (take l.place-index l.places) l.fn.self l.self
