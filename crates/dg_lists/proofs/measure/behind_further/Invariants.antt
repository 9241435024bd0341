use Rattle.std.proofs.Common.{◌≡◌, ◌+◌, drop, length}
use Rattle.dg_lists.specs.Canonical.{further_text}
use Rattle.dg_lists.proofs.measure.behind_further.Given as goal

abbrev pub invariant-loop-element : goal.invariant-loop-element
invariant-loop-element l = l.left + length (further_text l.fn.elements) ≡ l.fn.room + length (further_text (drop l.element-index l.elements))
