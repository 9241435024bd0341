-- The first span as a function is the first span as a relation.
use Rattle.std.proofs.Common.{◌≡◌, ◌≤◌, ◌+◌, ℕ, Bool, true, false, not, ◌||◌, List, length, Option, None, Some, option_map, option_and_then, refl, sym, ap, ◌∙◌, ⊎_elim, arith, eq-eqb}
use Rattle.std.specs.Prelude.{slice_range, IfSome, IfNone}
use Rattle.std.specs.Option.{is_some}
use Rattle.std.proofs.lemmas.Bool.{cases_Bool, false≢true, eqb-true, leb-true, le-leb, and_from, and_parts}
use Rattle.dg_glob.specs.Glob.{IsSpan, IsFirstSpan, body}
use Rattle.dg_glob.specs.Tests.{is_span, last_end, first_span}
use Rattle.dg_glob.specs.declared.glob.Span.{Span}
use Rattle.dg_glob.proofs.LeastLemmas.{least-none, least-some, greatest-none, greatest-some}
use Rattle.dg_glob.proofs.TestLemmas.{glob_true, matches_from_test}

bound_holds : (b c : Bool) → (not b || c) ≡ true → b ≡ true → c ≡ true
bound_holds true c h e = h
bound_holds false c h e = absurd (false≢true e)

bound_test : (b c : Bool) → (b ≡ true → c ≡ true) → (not b || c) ≡ true
bound_test true c h = h refl
bound_test false c h = refl

pub span_from_test : (p t : List ℕ) (s e : ℕ) → is_span p t s e ≡ true → IsSpan p t s e
unfolding is_span
span_from_test p t s e h =
    let all = and_parts _ _ h in
    let outer = and_parts _ _ all.0 in
    let places = and_parts _ _ outer.0 in
    let bounds = and_parts _ _ outer.1 in
    record {
      ordered = leb-true s e places.0;
      within = leb-true e (length t) places.1;
      at_start = λ b. eqb-true s 0 (bound_holds _ _ bounds.0 b);
      at_end = λ b. eqb-true e (length t) (bound_holds _ _ bounds.1 b);
      matched = matches_from_test (body p) (slice_range t s e) all.1;
    }

pub span_test : (p t : List ℕ) (s e : ℕ) → IsSpan p t s e → is_span p t s e ≡ true
unfolding is_span
span_test p t s e h =
    and_from _ _
    (and_from _ _
    (and_from _ _ (le-leb s e h.ordered) (le-leb e (length t) h.within))
    (and_from _ _ (bound_test _ _ (λ b. eq-eqb s 0 (h.at_start b))) (bound_test _ _ (λ b. eq-eqb e (length t) (h.at_end b)))))
    (glob_true (body p) (slice_range t s e) h.matched)

no_span_test : (p t : List ℕ) (s e : ℕ) → (IsSpan p t s e → ⊥) → is_span p t s e ≡ false
no_span_test p t s e none = ⊎_elim (λ h. absurd (none (span_from_test p t s e h))) (λ h. h) (cases_Bool (is_span p t s e))

no_end : (p t : List ℕ) (s : ℕ) → ((e : ℕ) → IsSpan p t s e → ⊥) → last_end p t s ≡ None
unfolding last_end
no_end p t s none = greatest-none (is_span p t s) (length t + 1) (λ e low. no_span_test p t s e (none e))

some_end : (p t : List ℕ) (s e : ℕ) → IsSpan p t s e → ((i : ℕ) → IsSpan p t s i → i ≤ e) → last_end p t s ≡ Some e
unfolding last_end
some_end p t s e h most =
    let within = h.within in
    greatest-some (is_span p t s) (length t + 1) e (omega arith) (span_test p t s e h)
    (λ i above low. no_span_test p t s i (λ span. let bound = most i span in omega arith))

abbrev pair : ℕ → ℕ → ℕ × ℕ
pair s e = (s, e)

-- no span
pub no_first : (p t : List ℕ) → ((s e : ℕ) → IsSpan p t s e → ⊥) → None ≡ first_span p t
unfolding first_span
no_first p t none =
    sym (ap (option_and_then (λ s. option_map (pair s) (last_end p t s)))
    (least-none (λ s. is_some (last_end p t s)) (length t + 1) (λ s low. ap is_some (no_end p t s (none s)))))

-- the first span
pub some_first : (p t : List ℕ) (s e : ℕ) → IsFirstSpan p t s e → Some (s, e) ≡ first_span p t
unfolding first_span
some_first p t s e h =
    let ordered = h.span.ordered in
    let within = h.span.within in
    let here = some_end p t s e h.span h.longest in
    sym (ap (option_and_then (λ s. option_map (pair s) (last_end p t s)))
    (least-some (λ s. is_some (last_end p t s)) (length t + 1) s (omega arith) (ap is_some here)
    (λ i low. ap is_some (no_end p t i (λ k span. let bound = h.first i k span in omega arith))))
    ∙ ap (option_map (pair s)) here)

-- by its two places
abbrev pub places_of : Span → ℕ × ℕ
places_of s = (s.start, s.end)

pub found_is_first : (p t : List ℕ) (r : Option Span) → IfSome r (λ s. IsFirstSpan p t s.start s.end) → IfNone r ((s e : ℕ) → IsSpan p t s e → ⊥) → option_map places_of r ≡ first_span p t
found_is_first p t None found none = no_first p t none
found_is_first p t (Some s) found none = some_first p t s.start s.end found
