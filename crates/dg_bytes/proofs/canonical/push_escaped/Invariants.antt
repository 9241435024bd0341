use Rattle.std.proofs.Common.{◌≡◌, ◌++◌, drop}
use Rattle.dg_bytes.specs.Canonical.{escaped_text}
use Rattle.dg_bytes.proofs.canonical.push_escaped.Given as goal

abbrev pub invariant-loop-byte : goal.invariant-loop-byte
invariant-loop-byte l = l.text.items ++ escaped_text (drop l.byte-index l.element) ≡ l.fn.text.items ++ escaped_text l.fn.element
