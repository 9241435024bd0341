use Rattle.std.proofs.Common.{◌≡◌, ◌≤◌, ◌-◌, length, drop}
use Rattle.dg_words.specs.Machine.{read}
use Rattle.dg_words.proofs.scan.Scanner.read_on.Given as goal

abbrev pub invariant-loop-place : goal.invariant-loop-place
invariant-loop-place l = record {
  reads : read l.level (drop l.place l.text) l.self l.place ≡ read l.level (drop l.at l.text) l.fn.self l.at;
  within : l.place ≤ length l.text;
  deep : l.self.depth ≤ l.place;
}

abbrev pub decreases-loop-place : goal.decreases-loop-place
decreases-loop-place l = length l.text - l.place
