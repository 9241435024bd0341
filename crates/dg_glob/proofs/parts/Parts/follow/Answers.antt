use Rattle.std.proofs.Common.{◌≡◌, ◌+◌, ◌-◌, ◌<◌, max, ℕ, List, [], Some, None, length, drop, get_or, refl, sym, ap, subst, ◌∙◌, arith}
use Rattle.dg_glob.specs.Parts.{Item, IsTrail, followed, least_stand, parts_of}
use Rattle.dg_glob.specs.Reading.{AreParts, IsPart}
use Rattle.dg_glob.proofs.TrailLemmas.{part_at, parts_left, stands_within, step_known, step_value, stop_known, stop_none}
use Rattle.dg_glob.proofs.parts.Parts.follow.Goals as goal

pub overflow_add-passed : goal.overflow_add-passed
overflow_add-passed c =
    let p = c.args.self.now in
    let t = c.args.text.now in
    let low : c.loop-part.found < length c.self.inside.parts.items = rw (← c.deref.ensures.value) c.in-Some.ensures.lookup.3.0 in
    let at : c.in-Some.part.now ≡ get_or c.self.inside.parts.items c.loop-part.found c.in-Some.part.now = rw (← c.deref.ensures.value) c.in-Some.ensures.lookup.1 in
    let are : AreParts c.self.inside.body.items c.self.inside.parts.items (parts_of p) = subst (λ (g : List ℕ). AreParts c.self.inside.body.items c.self.inside.parts.items (parts_of g)) c.self.view_is c.self.invariant.1 in
    let part : List Item = get_or (parts_of p) c.loop-part.found [] in
    let is : IsPart c.self.inside.body.items c.in-Some.part.now part = part_at c.self.inside.body.items c.self.inside.parts.items (parts_of p) c.loop-part.found c.in-Some.part.now are low at in
    let there : IsPart c.as_slice.result.now c.in-Some.part.now part = subst (λ (b : List ℕ). IsPart b c.in-Some.part.now part) (sym c.as_slice.ensures.value) is in
    let size : length part ≡ c.in-Some.part.now.size = is.count in
    let count = are.count in
    let found : least_stand part t c.loop-part.passed ≡ Some c.in-Some-place.place = sym (c.in-Some-place.ensures part there) in
    let within = stands_within part t c.loop-part.passed c.in-Some-place.place found in
    omega arith

pub loop-part-preserved : goal.loop-part-preserved
loop-part-preserved c =
    let p = c.args.self.now in
    let t = c.args.text.now in
    let low : c.loop-part.found < length c.self.inside.parts.items = rw (← c.deref.ensures.value) c.in-Some.ensures.lookup.3.0 in
    let at : c.in-Some.part.now ≡ get_or c.self.inside.parts.items c.loop-part.found c.in-Some.part.now = rw (← c.deref.ensures.value) c.in-Some.ensures.lookup.1 in
    let are : AreParts c.self.inside.body.items c.self.inside.parts.items (parts_of p) = subst (λ (g : List ℕ). AreParts c.self.inside.body.items c.self.inside.parts.items (parts_of g)) c.self.view_is c.self.invariant.1 in
    let part : List Item = get_or (parts_of p) c.loop-part.found [] in
    let is : IsPart c.self.inside.body.items c.in-Some.part.now part = part_at c.self.inside.body.items c.self.inside.parts.items (parts_of p) c.loop-part.found c.in-Some.part.now are low at in
    let there : IsPart c.as_slice.result.now c.in-Some.part.now part = subst (λ (b : List ℕ). IsPart b c.in-Some.part.now part) (sym c.as_slice.ensures.value) is in
    let size : length part ≡ c.in-Some.part.now.size = is.count in
    let count = are.count in
    let found : least_stand part t c.loop-part.passed ≡ Some c.in-Some-place.place = sym (c.in-Some-place.ensures part there) in
    let left = parts_left (parts_of p) c.loop-part.found (omega arith) in
    record {
      known = subst (λ (n : ℕ). IsTrail p (c.loop-part.found + 1) t (c.in-Some-place.place + n)) size
          (step_known p t c.loop-part.found c.loop-part.passed part (drop (c.loop-part.found + 1) (parts_of p)) left c.in-Some-place.place found refl c.loop-part.invariant.known);
      value = c.loop-part.invariant.value
          ∙ (step_value p t c.loop-part.found c.loop-part.passed part (drop (c.loop-part.found + 1) (parts_of p)) left c.in-Some-place.place found refl
          ∙ ap (λ (n : ℕ). followed p (c.loop-part.found + 1) t (c.in-Some-place.place + n)) size);
    }

pub returns-in-None-clause-known : goal.returns-in-None-clause-known
returns-in-None-clause-known c =
    let p = c.args.self.now in
    let t = c.args.text.now in
    let low : c.loop-part.found < length c.self.inside.parts.items = rw (← c.deref.ensures.value) c.in-Some.ensures.lookup.3.0 in
    let at : c.in-Some.part.now ≡ get_or c.self.inside.parts.items c.loop-part.found c.in-Some.part.now = rw (← c.deref.ensures.value) c.in-Some.ensures.lookup.1 in
    let are : AreParts c.self.inside.body.items c.self.inside.parts.items (parts_of p) = subst (λ (g : List ℕ). AreParts c.self.inside.body.items c.self.inside.parts.items (parts_of g)) c.self.view_is c.self.invariant.1 in
    let part : List Item = get_or (parts_of p) c.loop-part.found [] in
    let is : IsPart c.self.inside.body.items c.in-Some.part.now part = part_at c.self.inside.body.items c.self.inside.parts.items (parts_of p) c.loop-part.found c.in-Some.part.now are low at in
    let there : IsPart c.as_slice.result.now c.in-Some.part.now part = subst (λ (b : List ℕ). IsPart b c.in-Some.part.now part) (sym c.as_slice.ensures.value) is in
    let size : length part ≡ c.in-Some.part.now.size = is.count in
    let count = are.count in
    let none : least_stand part t c.loop-part.passed ≡ None = sym (c.in-None.ensures part there) in
    let left = parts_left (parts_of p) c.loop-part.found (omega arith) in
    let fits : c.max.result ≡ max c.loop-part.passed (length t + 1 - length part) =
    c.max.ensures ∙ ap (max c.loop-part.passed) (let all = c.saturating_add.ensures in let left = c.saturating_sub-fits.ensures in omega arith) in
    subst (IsTrail p c.loop-part.found t) (sym fits) (stop_known p t c.loop-part.found c.loop-part.passed part (drop (c.loop-part.found + 1) (parts_of p)) left none c.loop-part.invariant.known)

pub returns-in-None-clause-none : goal.returns-in-None-clause-none
returns-in-None-clause-none c = λ more.
    let p = c.args.self.now in
    let t = c.args.text.now in
    let low : c.loop-part.found < length c.self.inside.parts.items = rw (← c.deref.ensures.value) c.in-Some.ensures.lookup.3.0 in
    let at : c.in-Some.part.now ≡ get_or c.self.inside.parts.items c.loop-part.found c.in-Some.part.now = rw (← c.deref.ensures.value) c.in-Some.ensures.lookup.1 in
    let are : AreParts c.self.inside.body.items c.self.inside.parts.items (parts_of p) = subst (λ (g : List ℕ). AreParts c.self.inside.body.items c.self.inside.parts.items (parts_of g)) c.self.view_is c.self.invariant.1 in
    let part : List Item = get_or (parts_of p) c.loop-part.found [] in
    let is : IsPart c.self.inside.body.items c.in-Some.part.now part = part_at c.self.inside.body.items c.self.inside.parts.items (parts_of p) c.loop-part.found c.in-Some.part.now are low at in
    let there : IsPart c.as_slice.result.now c.in-Some.part.now part = subst (λ (b : List ℕ). IsPart b c.in-Some.part.now part) (sym c.as_slice.ensures.value) is in
    let size : length part ≡ c.in-Some.part.now.size = is.count in
    let count = are.count in
    let none : least_stand part t c.loop-part.passed ≡ None = sym (c.in-None.ensures part there) in
    let left = parts_left (parts_of p) c.loop-part.found (omega arith) in
    stop_none p t c.loop-part.found c.loop-part.passed part (drop (c.loop-part.found + 1) (parts_of p)) left none c.loop-part.invariant.known
