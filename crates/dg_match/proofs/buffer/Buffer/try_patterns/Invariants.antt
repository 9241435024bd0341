use Rattle.std.proofs.Common.{◌≡◌, ◌≤◌, ◌+◌, ◌*◌, length, take}
use Rattle.std.specs.List.{AllWithin}
use Rattle.dg_match.specs.Hits.{HasNoMatch}
use Rattle.dg_match.specs.Tries.{all_tried}
use Rattle.dg_match.proofs.buffer.Buffer.try_patterns.Given as goal

abbrev pub invariant-loop-index : goal.invariant-loop-index
invariant-loop-index l = record {
  bytes : l.self.bytes ≡ l.fn.self.bytes;
  max : l.self.max ≡ l.fn.self.max;
  counted : l.fn.self.compared ≤ l.self.compared;
  at_most : l.self.compared ≤ l.fn.self.compared + l.index * (2 * length l.fn.self.bytes);
  tried : l.self ≡ all_tried 0 (take l.index l.patterns) l.fn.self;
  kept : l.index ≤ length l.self.starts;
  none : AllWithin (λ p. HasNoMatch p l.fn.self.bytes) l.patterns 0 l.index;
}
