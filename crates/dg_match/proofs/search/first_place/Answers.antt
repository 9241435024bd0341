use Rattle.std.proofs.Common.{◌≡◌, ◌+◌, ◌-◌, ℕ, cond, nat_lt, length, arith, ap, ◌∙◌}
use Rattle.std.proofs.lemmas.List.{take_rest, length-drop}
use Rattle.dg_match.specs.Literals.{IsNowhere, IsLeastPlace}
use Rattle.dg_match.proofs.OccursLemmas.{nowhere_found, least_found, passed_fewer, passed_below}
use Rattle.dg_match.proofs.SearchLemmas.{no_least, least_is}
use Rattle.dg_match.proofs.search.first_place.Goals as goal

pub returns-in-None : goal.returns-in-None
returns-in-None c =
    let from = c.min-from.ensures in
    let nowhere : IsNowhere c.args.text.now c.args.bytes.now =
    nowhere_found _ _ c.min-from.result (omega (arith, from)) (passed_fewer _ _ _ _ (omega (arith, from)) c.requires)
    (rw (take_rest c.args.bytes.now c.min-from.result) at c.in-None.ensures) in
    let size = ap length (take_rest c.args.bytes.now c.min-from.result) ∙ length-drop c.min-from.result c.args.bytes.now in
    let left : length c.args.bytes.now - c.min-from.result ≡ length c.args.bytes.now - c.args.passed = omega (arith, from) in
    let bound = c.read_in_vain.ensures.bound in (
      nowhere,
      no_least _ _ nowhere,
      c.read_in_vain.ensures.value ∙ ap (λ (n : ℕ). cond (nat_lt n (length c.args.text.now)) 0 n) (size ∙ left),
      omega (arith, bound, size, left),
    )

pub returns-in-Some : goal.returns-in-Some
returns-in-Some c =
    let from = c.min-from.ensures in
    let found = rw (take_rest c.args.bytes.now c.min-from.result) at c.in-Some.ensures in
    let least : IsLeastPlace c.args.text.now c.args.bytes.now (c.min-from.result + c.in-Some.place) =
    least_found _ _ c.min-from.result (omega (arith, from)) (passed_fewer _ _ _ _ (omega (arith, from)) c.requires) c.in-Some.place found.0 found.1 in
    let fits = least.place.fits in
    let behind = passed_below _ _ c.args.passed (c.min-from.result + c.in-Some.place) c.requires least.place in
    let size = c.length_of.ensures in
    (least, least_is _ _ _ least, omega (arith, from, fits, behind, size), omega (arith, from, fits, size))
