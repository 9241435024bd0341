use Rattle.std.proofs.Common.{◌∙◌, map, ap, sym, subst}
use Rattle.dg_world.specs.World.{selected}
use Rattle.dg_index.specs.Kept.{place_of}
use Rattle.dg_core.specs.Lineup.{ArePlaces}
use Rattle.dg_core.proofs.PlaceLemmas.{place-own}
use Rattle.dg_core.proofs.lineup.Lineup.of.Goals as goal

pub returns : goal.returns
returns c =
    let shelf = c.args.kept.now.shelf in
    let tests = c.in_ok-tests.tests in
    let places = c.in_ok-places.ensures ∙ ap (map (place_of shelf)) c.as_slice.ensures in
    record {
      lineup = record {
        tests = c.in_ok-tests.ensures ∙ ap selected c.world.ensures;
        places = subst (ArePlaces shelf tests) (sym places) (place-own shelf tests);
        lead = tt;
      };
      held = tt;
    }
