use Rattle.std.proofs.Common.{◌≡◌, ◌≤◌, ◌<◌, ◌+◌, ◌-◌, ℕ, List, length, drop, ap, sym, subst, ◌∙◌, arith}
use Rattle.std.proofs.lemmas.List.{take_rest, length-drop}
use Rattle.dg_glob.specs.Parts.{IsTrail, followed, parts_of}
use Rattle.dg_glob.proofs.PartLemmas.{trail_cut}
use Rattle.dg_match.proofs.RestLemmas.{followed_behind, followed_bound, followed_known, followed_none, followed_past}
use Rattle.dg_match.proofs.search.follow_rest.Goals as goal

pub returns-in_default-clause-value : goal.returns-in_default-clause-value
returns-in_default-clause-value c =
    let past : length c.args.bytes.now < c.args.trail.passed = omega (arith, c.in_default.ensures.lookup) in
    sym (followed_past c.args.parts.now c.args.bytes.now c.args.trail.found c.args.trail.passed past)

pub returns-in_default-clause-none : goal.returns-in_default-clause-none
returns-in_default-clause-none c = λ low.
    let past : length c.args.bytes.now < c.args.trail.passed = omega (arith, c.in_default.ensures.lookup) in
    followed_none c.args.parts.now c.args.bytes.now c.args.trail.found c.args.trail.passed c.requires
    (subst (λ (n : ℕ). n < length (parts_of c.args.parts.now)) (ap (λ (r : ℕ × ℕ). r.0) (sym (followed_past c.args.parts.now c.args.bytes.now c.args.trail.found c.args.trail.passed past))) low)

pub follow-behind-requires : goal.follow-behind-requires
follow-behind-requires c =
    let n : ℕ = c.args.trail.passed in
    let within : n ≤ length c.args.bytes.now = c.in-Some.ensures.lookup.0.0 in
    let rest_is : c.in-Some.rest.now ≡ drop n c.args.bytes.now = c.in-Some.ensures.lookup.0.2 ∙ take_rest c.args.bytes.now n in
    let e : n - n ≡ 0 = omega arith in
    subst (λ (k : ℕ). IsTrail c.args.parts.now c.args.trail.found c.in-Some.rest.now k) e
    (subst (λ (u : List ℕ). IsTrail c.args.parts.now c.args.trail.found u (n - n)) (sym rest_is) (trail_cut c.args.parts.now c.args.trail.found c.args.bytes.now n n within c.requires))

pub overflow_add-result : goal.overflow_add-result
overflow_add-result c =
    let n : ℕ = c.args.trail.passed in
    let within : n ≤ length c.args.bytes.now = c.in-Some.ensures.lookup.0.0 in
    let rest_is : c.in-Some.rest.now ≡ drop n c.args.bytes.now = c.in-Some.ensures.lookup.0.2 ∙ take_rest c.args.bytes.now n in
    let size = ap length rest_is ∙ length-drop n c.args.bytes.now in
    let bound = followed_bound c.args.parts.now c.in-Some.rest.now c.args.trail.found 0 in
    let is : c.follow-behind.result.passed ≡ (followed c.args.parts.now c.args.trail.found c.in-Some.rest.now 0).1 = ap (λ (r : ℕ × ℕ). r.1) c.follow-behind.ensures.value in
    let small = c.type_inv.bytes in
    omega arith

pub returns-clause-value : goal.returns-clause-value
returns-clause-value c =
    let n : ℕ = c.args.trail.passed in
    let within : n ≤ length c.args.bytes.now = c.in-Some.ensures.lookup.0.0 in
    let rest_is : c.in-Some.rest.now ≡ drop n c.args.bytes.now = c.in-Some.ensures.lookup.0.2 ∙ take_rest c.args.bytes.now n in
    ap (λ (r : ℕ × ℕ). (r.0, n + r.1)) (c.follow-behind.ensures.value ∙ ap (λ (u : List ℕ). followed c.args.parts.now c.args.trail.found u 0) rest_is)
    ∙ sym (followed_behind c.args.bytes.now n within c.args.parts.now c.args.trail.found)

pub returns-clause-known : goal.returns-clause-known
returns-clause-known c =
    let n : ℕ = c.args.trail.passed in
    let within : n ≤ length c.args.bytes.now = c.in-Some.ensures.lookup.0.0 in
    let rest_is : c.in-Some.rest.now ≡ drop n c.args.bytes.now = c.in-Some.ensures.lookup.0.2 ∙ take_rest c.args.bytes.now n in
    let value : (c.follow-behind.result.found, n + c.follow-behind.result.passed) ≡ followed c.args.parts.now c.args.trail.found c.args.bytes.now n =
    ap (λ (r : ℕ × ℕ). (r.0, n + r.1)) (c.follow-behind.ensures.value ∙ ap (λ (u : List ℕ). followed c.args.parts.now c.args.trail.found u 0) rest_is)
    ∙ sym (followed_behind c.args.bytes.now n within c.args.parts.now c.args.trail.found) in
    subst (λ (r : ℕ × ℕ). IsTrail c.args.parts.now r.0 c.args.bytes.now r.1) (sym value) (followed_known c.args.parts.now c.args.bytes.now c.args.trail.found n c.requires)

pub returns-clause-none : goal.returns-clause-none
returns-clause-none c = λ low.
    let n : ℕ = c.args.trail.passed in
    let within : n ≤ length c.args.bytes.now = c.in-Some.ensures.lookup.0.0 in
    let rest_is : c.in-Some.rest.now ≡ drop n c.args.bytes.now = c.in-Some.ensures.lookup.0.2 ∙ take_rest c.args.bytes.now n in
    let value : (c.follow-behind.result.found, n + c.follow-behind.result.passed) ≡ followed c.args.parts.now c.args.trail.found c.args.bytes.now n =
    ap (λ (r : ℕ × ℕ). (r.0, n + r.1)) (c.follow-behind.ensures.value ∙ ap (λ (u : List ℕ). followed c.args.parts.now c.args.trail.found u 0) rest_is)
    ∙ sym (followed_behind c.args.bytes.now n within c.args.parts.now c.args.trail.found) in
    followed_none c.args.parts.now c.args.bytes.now c.args.trail.found n c.requires
    (subst (λ (k : ℕ). k < length (parts_of c.args.parts.now)) (ap (λ (r : ℕ × ℕ). r.0) value) low)
