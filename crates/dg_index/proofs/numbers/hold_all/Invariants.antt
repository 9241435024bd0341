use Rattle.std.proofs.Common.{◌≡◌, ◌≤◌, ◌+◌, ℕ, List, length, take}
use Rattle.std.specs.Vec.{vec_capacity, vec_len}
use Rattle.dg_contents.specs.Contents.{holders_of, KeepsNumbers}
use Rattle.dg_index.specs.Numbers.{given_by, numbers_in}
use Rattle.dg_index.proofs.numbers.hold_all.Given as goal

abbrev pub invariant-loop-place : goal.invariant-loop-place
invariant-loop-place l = record {
  numbers : l.numbers.items ≡ numbers_in l.contents (take l.place l.reads);
  held : (t : List ℕ) → holders_of l.fn.contents t + given_by t (take l.place l.reads) ≤ holders_of l.contents t;
  stays : KeepsNumbers l.fn.contents l.contents;
  len : vec_len l.numbers ≡ l.place;
  room : length l.reads ≤ vec_capacity l.numbers;
}
