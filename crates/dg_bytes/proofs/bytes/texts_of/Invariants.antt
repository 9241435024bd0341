use Rattle.std.proofs.Common.{◌≡◌, take}
use Rattle.dg_bytes.proofs.bytes.texts_of.Given as goal

abbrev pub invariant-loop-element : goal.invariant-loop-element
invariant-loop-element l = l.texts.items ≡ take l.element-index l.fn.elements
