use Rattle.std.proofs.Common.{◌≡◌, ◌≤◌, drop, false}
use Rattle.dg_bytes.specs.Canonical.{may_be_braced}
use Rattle.dg_bytes.proofs.canonical.may_be_braced.Given as goal

abbrev pub invariant-loop-byte : goal.invariant-loop-byte
invariant-loop-byte l = (may_be_braced l.paired l.depth (drop l.byte-index l.element) ≡ may_be_braced false 0 l.fn.element) × (l.depth ≤ l.byte-index)
