use Rattle.std.proofs.Common.{◌≡◌, map, take}
use Rattle.dg_line.proofs.values.names_in.Given as goal

abbrev pub invariant-loop-part : goal.invariant-loop-part
invariant-loop-part l = l.names ≡ map (λ p. p.now) (take l.part-index l.part-items)
