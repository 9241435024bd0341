use Rattle.std.proofs.Common.{◌≡◌, ◌++◌, drop, Ok}
use Rattle.std.specs.List.{flat_map}
use Rattle.dg_cmds.specs.Answers.{limited}
use Rattle.dg_cmds.proofs.lists.add_further.Given as goal

abbrev pub invariant-loop-one : goal.invariant-loop-one
invariant-loop-one l = (l.text ++ flat_map (λ y. l.between ++ y) (drop l.one-index l.texts) ≡ l.fn.text ++ flat_map (λ y. l.between ++ y) l.texts) × (limited l.fn.text ≡ Ok l.fn.text → limited l.text ≡ Ok l.text)
