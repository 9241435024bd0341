use Rattle.std.proofs.Common.{◌≡◌, take}
use Rattle.dg_lists.proofs.list.shared.Given as goal

abbrev pub invariant-loop-text : goal.invariant-loop-text
invariant-loop-text l = l.items.items ≡ take l.text-index l.fn.texts
