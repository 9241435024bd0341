use Rattle.std.proofs.Common.{◌≡◌, take}
use Rattle.dg_bytes.proofs.listed.share_each.Given as goal

abbrev pub invariant-loop-text : goal.invariant-loop-text
invariant-loop-text l = l.shared.items ≡ take l.text-index l.fn.texts
