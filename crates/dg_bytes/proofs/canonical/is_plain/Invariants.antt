use Rattle.std.proofs.Common.{◌≡◌, drop}
use Rattle.dg_bytes.specs.Canonical.{is_plain}
use Rattle.dg_bytes.proofs.canonical.is_plain.Given as goal

abbrev pub invariant-loop-byte : goal.invariant-loop-byte
invariant-loop-byte l = is_plain (drop l.byte-index l.element) ≡ is_plain l.fn.element
