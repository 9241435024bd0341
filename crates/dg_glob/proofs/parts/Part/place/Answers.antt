use Rattle.std.proofs.Common.{◌≡◌, ◌+◌, ◌<◌, ◌≤◌, ℕ, false, length, drop, sym, ap, subst, ◌∙◌, arith}
use Rattle.dg_glob.specs.Parts.{stands}
use Rattle.dg_glob.specs.Reading.{Steps}
use Rattle.std.proofs.lemmas.List.{take_rest}
use Rattle.dg_glob.proofs.ReadingLemmas.{least_is_some, place_past, place_short, place_vain, place_ahead, place_more}
use Rattle.dg_glob.proofs.parts.Part.place.Goals as goal

pub returns-in_err-rest : goal.returns-in_err-rest
returns-in_err-rest c = λ items part.
    c.from_residual-in_err-rest.ensures
    ∙ place_past items c.args.text.now c.args.from c.loop-rest.place c.loop-rest.invariant.low (c.loop-rest.invariant.none items part) (omega (arith, c.in_err-rest.ensures.lookup))

pub returns-then-rest-self : goal.returns-then-rest-self
returns-then-rest-self c = λ items part.
    let size = c.in_ok-rest.ensures.lookup.0.3 in
    place_short items c.args.text.now c.args.from c.loop-rest.place c.loop-rest.invariant.low (c.loop-rest.invariant.none items part) c.args.self.now.size part.count (omega (arith, size, c.if-rest-self.true))

pub returns-in_err-place : goal.returns-in_err-place
returns-in_err-place c = λ items part.
    let rest_is : c.in_ok-rest.rest.now ≡ drop c.loop-rest.place c.args.text.now = c.in_ok-rest.ensures.lookup.0.2 ∙ take_rest c.args.text.now c.loop-rest.place in
    let hay_is : c.in_ok-get.field-0.now ≡ drop c.args.self.now.lead c.in_ok-rest.rest.now = c.in_ok-get.ensures.lookup.0.2 ∙ take_rest c.in_ok-rest.rest.now c.args.self.now.lead in
    c.from_residual-in_err-place.ensures
    ∙ place_vain items c.args.text.now c.args.from c.loop-rest.place c.loop-rest.invariant.low (c.loop-rest.invariant.none items part)
    c.args.self.now.run c.in_ok-get.field-0.now c.args.self.now.lead part.has_run (hay_is ∙ ap (drop c.args.self.now.lead) rest_is) c.in_err-place.ensures

pub returns-then-stands : goal.returns-then-stands
returns-then-stands c = λ items part.
    let items_is : c.in_ok-items.items.now ≡ drop c.args.self.now.begin c.args.pattern.now = c.in_ok-items.ensures.lookup.0.2 ∙ take_rest c.args.pattern.now c.args.self.now.begin in
    let rest_is : c.in_ok-rest.rest.now ≡ drop c.loop-rest.place c.args.text.now = c.in_ok-rest.ensures.lookup.0.2 ∙ take_rest c.args.text.now c.loop-rest.place in
    let hay_is : c.in_ok-get.field-0.now ≡ drop c.args.self.now.lead c.in_ok-rest.rest.now = c.in_ok-get.ensures.lookup.0.2 ∙ take_rest c.in_ok-rest.rest.now c.args.self.now.lead in
    let place : ℕ = c.loop-rest.place + c.in_ok-place.field-0 in
    let here_is : c.in_ok-get-2.field-0.now ≡ drop place c.args.text.now = c.in_ok-get-2.ensures.lookup.0.2 ∙ take_rest c.args.text.now place in
    let within : place ≤ length c.args.text.now = c.in_ok-get-2.ensures.lookup.0.0 in
    let told : c.stands.result ≡ stands items (drop place c.args.text.now) =
    c.stands.ensures items part.rest (subst (λ p. Steps p items part.rest) (sym items_is) part.steps) part.ends ∙ ap (stands items) here_is in
    let ahead : (k : ℕ) → c.args.from ≤ k → k < place → stands items (drop k c.args.text.now) ≡ false =
    place_ahead items c.args.text.now c.args.from c.loop-rest.place c.loop-rest.invariant.low (c.loop-rest.invariant.none items part)
    c.args.self.now.run c.in_ok-get.field-0.now c.args.self.now.lead part.has_run (hay_is ∙ ap (drop c.args.self.now.lead) rest_is) c.in_ok-place.field-0 within c.in_ok-place.ensures.0.before in
    let low = c.loop-rest.invariant.low in
    sym (least_is_some items c.args.text.now c.args.from place (omega arith) within (sym told ∙ c.if-stands.true) ahead)

pub loop-rest-preserved : goal.loop-rest-preserved
loop-rest-preserved c = record {
  low = let low = c.loop-rest.invariant.low in omega arith;
  none = λ items part.
      let items_is : c.in_ok-items.items.now ≡ drop c.args.self.now.begin c.args.pattern.now = c.in_ok-items.ensures.lookup.0.2 ∙ take_rest c.args.pattern.now c.args.self.now.begin in
      let rest_is : c.in_ok-rest.rest.now ≡ drop c.loop-rest.place c.args.text.now = c.in_ok-rest.ensures.lookup.0.2 ∙ take_rest c.args.text.now c.loop-rest.place in
      let hay_is : c.in_ok-get.field-0.now ≡ drop c.args.self.now.lead c.in_ok-rest.rest.now = c.in_ok-get.ensures.lookup.0.2 ∙ take_rest c.in_ok-rest.rest.now c.args.self.now.lead in
      let place : ℕ = c.loop-rest.place + c.in_ok-place.field-0 in
      let here_is : c.in_ok-get-2.field-0.now ≡ drop place c.args.text.now = c.in_ok-get-2.ensures.lookup.0.2 ∙ take_rest c.args.text.now place in
      let within : place ≤ length c.args.text.now = c.in_ok-get-2.ensures.lookup.0.0 in
      let told : c.stands.result ≡ stands items (drop place c.args.text.now) =
      c.stands.ensures items part.rest (subst (λ p. Steps p items part.rest) (sym items_is) part.steps) part.ends ∙ ap (stands items) here_is in
      let ahead : (k : ℕ) → c.args.from ≤ k → k < place → stands items (drop k c.args.text.now) ≡ false =
      place_ahead items c.args.text.now c.args.from c.loop-rest.place c.loop-rest.invariant.low (c.loop-rest.invariant.none items part)
      c.args.self.now.run c.in_ok-get.field-0.now c.args.self.now.lead part.has_run (hay_is ∙ ap (drop c.args.self.now.lead) rest_is) c.in_ok-place.field-0 within c.in_ok-place.ensures.0.before in
      place_more items c.args.text.now c.args.from place ahead (sym told ∙ c.if-stands.false);
}
