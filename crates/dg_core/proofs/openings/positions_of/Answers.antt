use Rattle.std.proofs.Common.{◌≡◌, ◌∙◌, None, Some, slice_get, ap, sym, subst}
use Rattle.std.proofs.lemmas.Option.{slice_get-get_or}
use Rattle.dg_core.proofs.OpeningLemmas.{leads-more}
use Rattle.dg_core.proofs.openings.positions_of.Goals as goal

pub loop-at-preserved : goal.loop-at-preserved
loop-at-preserved c =
    let places = c.args.places.now in
    let at = c.loop-at.at in
    let place = c.in_ok-place.place in
    let positions = c.loop-at.positions.items in
    let free = c.in-Some-None.ensures.lookup.3 in
    let here : slice_get places at ≡ Some (Some place) = slice_get-get_or places at None c.loop-at-test.true ∙ ap Some c.in_ok-place.was in
    let none : slice_get c.as_slice.result.now place ≡ Some None = slice_get-get_or c.as_slice.result.now place None free.0 ∙ ap Some (sym (free.1 None) ∙ c.in-Some-None.field-0-is) in
    leads-more places positions at place here (subst (λ l. slice_get l place ≡ Some None) c.as_slice.ensures.value none) c.loop-at.invariant
