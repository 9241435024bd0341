use Rattle.std.proofs.Common.{◌≡◌, ◌+◌, drop, length}
use Rattle.dg_bytes.specs.Canonical.{escaped_text}
use Rattle.dg_bytes.proofs.measure.behind_escaped.Given as goal

abbrev pub invariant-loop-byte : goal.invariant-loop-byte
invariant-loop-byte l = l.left + length (escaped_text l.fn.element) ≡ l.fn.room + length (escaped_text (drop l.byte-index l.element))
