-- The test of the bytes so far.
use Rattle.std.proofs.Common.{◌≡◌, take}
use Rattle.std.specs.List.{list_all}
use Rattle.dg_transcript.specs.Small.{is_small}
use Rattle.dg_transcript.proofs.fields.is_small.Given as goal

abbrev pub invariant-loop-b : goal.invariant-loop-b
invariant-loop-b l = l.small ≡ list_all is_small (take l.b-index l.text)
