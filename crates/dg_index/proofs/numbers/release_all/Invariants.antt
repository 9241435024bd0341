use Rattle.std.proofs.Common.{◌≡◌, ℕ, List, take}
use Rattle.std.specs.Prelude.{◌-◌}
use Rattle.dg_contents.specs.Contents.{holders_of, KeepsHeldNumbers}
use Rattle.dg_index.specs.Numbers.{given_by}
use Rattle.dg_index.proofs.numbers.release_all.Given as goal

abbrev pub invariant-loop-read : goal.invariant-loop-read
invariant-loop-read l = record {
  fewer : (t : List ℕ) → holders_of l.contents t ≡ holders_of l.fn.contents t - given_by t (take l.read-index l.reads);
  stays : KeepsHeldNumbers l.fn.contents l.contents;
}
