use Rattle.std.proofs.Common.{◌≡◌, ◌++◌, [], ◌∷◌, drop, map}
use Rattle.dg_cmds.proofs.lists.single_bytes.Given as goal

abbrev pub invariant-loop-byte : goal.invariant-loop-byte
invariant-loop-byte l = l.parts.items ++ map (λ c. c ∷ []) (drop l.byte-index l.text) ≡ map (λ c. c ∷ []) l.text
