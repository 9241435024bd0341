use Rattle.std.proofs.Common.{take, ◌≡◌, true}
use Rattle.std.specs.List.{AllByRecursion}
use Rattle.dg_transcript.specs.declared.line.Place.TheVariants as place
use Rattle.dg_transcript.specs.Limits.{EntryFits, in_order}
use Rattle.dg_transcript.proofs.Limiting.{place_from}
use Rattle.dg_transcript.proofs.limits.is_session.Given as goal

abbrev pub invariant-loop-entry : goal.invariant-loop-entry
invariant-loop-entry l = record {
  fits : AllByRecursion EntryFits (take l.entry-index l.entries);
  ordered : in_order place.Opened (take l.entry-index l.entries) ≡ true;
  here : l.place ≡ place_from place.Opened (take l.entry-index l.entries);
}
