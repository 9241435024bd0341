use Rattle.std.proofs.Common.{ℕ, List, Bool, None, true, false, IsTrue, ◌≡◌, ◌≤◌, ◌-◌, length, drop, subst, sym, ◌∙◌}
use Rattle.dg_glob.specs.Glob.{IsSpan, IsFirstSpan, binds_start, body}
use Rattle.dg_glob.specs.Search.{Ends, IsAnswer, IsFirstReach, IsLongest}
use Rattle.dg_glob.proofs.RunLemmas.{if_some, if_none_so}
use Rattle.dg_glob.proofs.FirstLemmas.{found_is_first}
use Rattle.dg_glob.proofs.SpanLemmas.{first_span, no_span, span_at_start, no_bound_span}
use Rattle.dg_glob.proofs.glob.find_glob.Goals as goal

-- nothing binds the pattern to the start
free : (p : List ℕ) (b : Bool) → b ≡ binds_start p → b ≡ false → IsTrue (binds_start p) → ⊥
free p b is off on = let e : false ≡ true = sym off ∙ is ∙ on in cc

pub returns-then-not-binds_start-clause-found : goal.returns-then-not-binds_start-clause-found
returns-then-not-binds_start-clause-found c =
    let p = c.args.pattern.now in
    let t = c.args.text.now in
    if_some c.first_reach.result (λ s. IsFirstReach c.binds_end-whole.result c.body-body.result.now t s.start s.end) (λ s. IsFirstSpan p t s.start s.end)
    (λ s h. first_span p t s.start s.end (free p c.binds_start.result c.binds_start.ensures c.if-not-binds_start.true) (subst (λ w. IsFirstReach w (body p) t s.start s.end) c.binds_end-whole.ensures (subst (λ b. IsFirstReach c.binds_end-whole.result b t s.start s.end) c.body-body.ensures h)))
    c.first_reach.ensures.some

pub returns-then-not-binds_start-clause-none : goal.returns-then-not-binds_start-clause-none
returns-then-not-binds_start-clause-none c =
    let p = c.args.pattern.now in
    let t = c.args.text.now in
    if_none_so c.first_reach.result ((s : ℕ) (r : List ℕ) → s ≤ length t → Ends c.binds_end-whole.result c.body-body.result.now (drop s t) r → ⊥) ((s e : ℕ) → IsSpan p t s e → ⊥)
    (λ h. no_span p t (subst (λ w. (s : ℕ) (r : List ℕ) → s ≤ length t → Ends w (body p) (drop s t) r → ⊥) c.binds_end-whole.ensures (subst (λ b. (s : ℕ) (r : List ℕ) → s ≤ length t → Ends c.binds_end-whole.result b (drop s t) r → ⊥) c.body-body.ensures h)))
    c.first_reach.ensures.none

pub returns-then-not-binds_start-clause-value : goal.returns-then-not-binds_start-clause-value
returns-then-not-binds_start-clause-value c =
    found_is_first c.args.pattern.now c.args.text.now c.first_reach.result (returns-then-not-binds_start-clause-found c) (returns-then-not-binds_start-clause-none c)

pub returns-clause-found : goal.returns-clause-found
returns-clause-found c =
    let p = c.args.pattern.now in
    let t = c.args.text.now in
    if_some c.reach_at_start.result (λ s. (s.start ≡ 0) × (s.end ≤ length t) × IsLongest c.binds_end-whole.result c.body-body.result.now t (length t - s.end)) (λ s. IsFirstSpan p t s.start s.end)
    (λ s h. span_at_start p t s.start s.end (sym c.binds_start.ensures ∙ c.if-not-binds_start.false) h.0 h.1 (subst (λ w. IsLongest w (body p) t (length t - s.end)) c.binds_end-whole.ensures (subst (λ b. IsLongest c.binds_end-whole.result b t (length t - s.end)) c.body-body.ensures h.2)))
    c.reach_at_start.ensures.some

pub returns-clause-none : goal.returns-clause-none
returns-clause-none c =
    let p = c.args.pattern.now in
    let t = c.args.text.now in
    if_none_so c.reach_at_start.result (IsAnswer c.binds_end-whole.result c.body-body.result.now t None) ((s e : ℕ) → IsSpan p t s e → ⊥)
    (λ h. no_bound_span p t (sym c.binds_start.ensures ∙ c.if-not-binds_start.false) (subst (λ w. IsAnswer w (body p) t None) c.binds_end-whole.ensures (subst (λ b. IsAnswer c.binds_end-whole.result b t None) c.body-body.ensures h)))
    c.reach_at_start.ensures.none

pub returns-clause-value : goal.returns-clause-value
returns-clause-value c =
    found_is_first c.args.pattern.now c.args.text.now c.reach_at_start.result (returns-clause-found c) (returns-clause-none c)
