use Rattle.std.proofs.Common.{ℕ, ◌<◌, Vec, Global, slice_index_or}
use Rattle.dg_match.specs.Literals.{IsNowhere}
use Rattle.dg_match.specs.Starts.{AllKept}
use Rattle.dg_match.proofs.watch.Watch.lacks_all.Given as goal

abbrev pub invariant-loop-text : goal.invariant-loop-text
invariant-loop-text l = record {
  passed : AllKept l.bytes l.self;
  nowhere : (k : ℕ) (d : Vec ℕ Global) → k < l.text-index → IsNowhere (slice_index_or l.texts k d).items l.bytes;
}
