use Rattle.std.proofs.Common.{◌≡◌, ℕ, ◌||◌, false, get_or, drop, length}
use Rattle.dg_cmds.specs.Bytes.{member}
use Rattle.dg_cmds.proofs.bytes.set_of.Given as goal

abbrev pub invariant-loop-byte : goal.invariant-loop-byte
invariant-loop-byte l = (length l.marks ≡ 256) × ((b : ℕ) → (get_or l.marks b false || member (drop l.byte-index l.bytes) b) ≡ member l.bytes b)
