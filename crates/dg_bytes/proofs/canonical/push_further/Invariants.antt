use Rattle.std.proofs.Common.{◌≡◌, ◌++◌, drop}
use Rattle.dg_bytes.specs.Canonical.{further_text}
use Rattle.dg_bytes.proofs.canonical.push_further.Given as goal

abbrev pub invariant-loop-element : goal.invariant-loop-element
invariant-loop-element l = l.text.items ++ further_text (drop l.element-index l.elements) ≡ l.fn.text.items ++ further_text l.fn.elements
