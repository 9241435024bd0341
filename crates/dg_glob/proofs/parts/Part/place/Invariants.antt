use Rattle.std.proofs.Common.{◌≡◌, ◌+◌, ◌-◌, ◌<◌, ◌≤◌, ℕ, List, false, length, drop}
use Rattle.dg_glob.specs.Parts.{Item, stands}
use Rattle.dg_glob.specs.Reading.{IsPart}
use Rattle.dg_glob.proofs.parts.Part.place.Given as goal

abbrev pub invariant-loop-rest : goal.invariant-loop-rest
invariant-loop-rest l = record {
  low : l.from ≤ l.place;
  none : (part : List Item) → IsPart l.pattern l.self part → (k : ℕ) → l.from ≤ k → k < l.place → stands part (drop k l.text) ≡ false;
}

abbrev pub decreases-loop-rest : goal.decreases-loop-rest
decreases-loop-rest l = length l.text + 1 - l.place
