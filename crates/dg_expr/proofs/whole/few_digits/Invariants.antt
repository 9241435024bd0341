use Rattle.std.proofs.Common.{◌≡◌, ◌<◌, ◌^◌, drop}
use Rattle.dg_expr.specs.Number.{digits_behind}
use Rattle.dg_expr.proofs.whole.few_digits.Given as goal

abbrev pub invariant-loop-byte : goal.invariant-loop-byte
invariant-loop-byte l = record {
  read : digits_behind 10 l.value (drop l.byte-index l.text) ≡ digits_behind 10 0 l.text;
  below : l.value < 10 ^ l.byte-index;
}
