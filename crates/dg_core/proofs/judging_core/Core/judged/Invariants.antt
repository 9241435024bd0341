use Rattle.std.proofs.Common.{◌≡◌, take}
use Rattle.std.specs.Prelude.{Some}
use Rattle.dg_records.specs.Truth.{answers_of}
use Rattle.dg_core.specs.Scratch.{all_judged}
use Rattle.dg_core.proofs.judging_core.Core.judged.Given as goal

abbrev pub invariant-loop-at : goal.invariant-loop-at
invariant-loop-at l = all_judged (answers_of l.self.world) (take l.at l.tests) ≡ Some l.judged.items
