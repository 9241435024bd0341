use Rattle.std.proofs.Common.{◌≡◌, ◌≤◌, ◌-◌, length, drop}
use Rattle.dg_lists.specs.Elements.{list_read, unread}
use Rattle.dg_lists.proofs.list.read_list.Given as goal

abbrev pub invariant-loop-place : goal.invariant-loop-place
invariant-loop-place l = record {
  reads : list_read (drop l.place l.text) l.listing l.place ≡ list_read l.text unread 0;
  within : l.place ≤ length l.text;
  deep : l.listing.depth ≤ l.place;
}

abbrev pub decreases-loop-place : goal.decreases-loop-place
decreases-loop-place l = length l.text - l.place
