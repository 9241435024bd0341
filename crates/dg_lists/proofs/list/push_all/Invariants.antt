use Rattle.std.proofs.Common.{◌≡◌, ◌++◌, take}
use Rattle.dg_lists.proofs.list.push_all.Given as goal

abbrev pub invariant-loop-element : goal.invariant-loop-element
invariant-loop-element l = l.elements ≡ l.fn.elements ++ take l.element-index l.fn.more
