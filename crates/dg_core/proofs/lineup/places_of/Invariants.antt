use Rattle.std.proofs.Common.{◌≡◌, take, map}
use Rattle.dg_index.specs.Kept.{place_of}
use Rattle.dg_core.proofs.lineup.places_of.Given as goal

abbrev pub invariant-loop-test : goal.invariant-loop-test
invariant-loop-test l = l.places.items ≡ map (place_of l.kept.shelf) (take l.test-index l.tests)
