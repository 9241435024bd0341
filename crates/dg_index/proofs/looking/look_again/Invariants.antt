use Rattle.std.proofs.Common.{◌≡◌, take}
use Rattle.indexmap.specs.IndexMap.{spare}
use Rattle.dg_index.specs.Index.{is_among}
use Rattle.dg_index.specs.Marks.{counted}
use Rattle.dg_index.proofs.LookingLemmas.{looked_where, read_where}
use Rattle.dg_index.proofs.looking.look_again.Given as goal

abbrev pub invariant-loop-place : goal.invariant-loop-place
invariant-loop-place l = record {
  entries : l.records.entries ≡ looked_where l.world l.topic (is_among (take l.place-index l.places)) l.fn.records.entries;
  room : spare l.records ≡ spare l.fn.records;
  count : l.compared ≡ counted l.fn.compared (read_where l.world l.topic (is_among (take l.place-index l.places)) l.fn.records.entries);
}
