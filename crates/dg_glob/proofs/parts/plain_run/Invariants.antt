use Rattle.std.proofs.Common.{◌≡◌, ◌++◌, take, drop}
use Rattle.dg_glob.specs.Reading.{plain_front}
use Rattle.dg_glob.proofs.parts.plain_run.Given as goal

abbrev pub invariant-loop-byte : goal.invariant-loop-byte
invariant-loop-byte l = (l.count ≡ l.byte-index) × (plain_front l.pattern ≡ take l.byte-index l.pattern ++ plain_front (drop l.byte-index l.pattern))
