-- Spans of a pattern, and the ends of the matches of its body.
use Rattle.std.proofs.Common.{◌≡◌, ◌≤◌, ◌<◌, ◌+◌, ◌-◌, ⊎_elim, ℕ, Bool, IsTrue, List, [], ◌∷◌, ◌++◌, None, length, take, drop, refl, sym, ap, ◌∙◌, subst, arith}
use Rattle.std.specs.Prelude.{slice_range}
use Rattle.std.proofs.lemmas.Bool.{cases_lt}
use Rattle.std.proofs.lemmas.List.{drop-drop, take-append-drop, length-drop, length-append, take_at, drop_all}
use Rattle.dg_glob.specs.Glob.{Matches, IsSpan, IsFirstSpan, binds_start, binds_end, body}
use Rattle.dg_glob.specs.Search.{Leaves, Ends, IsLongest, IsAnswer, IsAhead, IsFirstReach}

-- the bytes of a span end where what is left begins
pub span_ends : (p t : List ℕ) (s e : ℕ) → IsSpan p t s e → Ends (binds_end p) (body p) (drop s t) (drop e t)
span_ends p t s e span =
    let n : s + (e - s) ≡ e = let h = span.ordered in omega arith in
    record {
      leaves = record {
        taken = slice_range t s e;
        split = sym (take-append-drop (e - s) (drop s t)) ∙ ap (λ r. slice_range t s e ++ r) (drop-drop (e - s) s t ∙ ap (λ m. drop m t) n);
        matched = span.matched;
      };
      all = λ h. drop_all e t (let g = span.at_end h in omega arith);
    }

pub ends_span : (p t : List ℕ) (s e : ℕ) (r : List ℕ) → s ≤ length t → e ≤ length t → (IsTrue (binds_start p) → s ≡ 0) → length r ≡ length t - e → Ends (binds_end p) (body p) (drop s t) r → IsSpan p t s e
ends_span p t s e r within ends at count found =
    let total : length t - s ≡ length found.leaves.taken + length r = sym (length-drop s t) ∙ ap length found.leaves.split ∙ length-append found.leaves.taken r in
    let size : length found.leaves.taken ≡ e - s = omega arith in
    let part : slice_range t s e ≡ found.leaves.taken = ap (take (e - s)) found.leaves.split ∙ take_at found.leaves.taken r (e - s) size in
    record {
      ordered = omega arith;
      within = ends;
      at_start = at;
      at_end = λ h. let g = ap length (found.all h) in omega arith;
      matched = subst (Matches (body p)) (sym part) found.leaves.matched;
    }

-- A search from the front of a text on has come to this rest of it.
pub record IsScan (whole : Bool) (p t rest : List ℕ) : Type 0 where
  pub at : ℕ
  pub within : at ≤ length t
  pub left : rest ≡ drop at t
  pub before : (s : ℕ) (r : List ℕ) → s < at → Ends whole p (drop s t) r → ⊥

-- a place at or behind another is a place of what is left there
later_place : (t : List ℕ) (m s : ℕ) → m ≤ s → drop (s - m) (drop m t) ≡ drop s t
later_place t m s h = let n : m + (s - m) ≡ s = omega arith in drop-drop (s - m) m t ∙ ap (λ k. drop k t) n

module _ (whole : Bool) (p t rest : List ℕ) (scan : IsScan whole p t rest) where
  pub scan_skip : (u : List ℕ) → IsAhead p rest u → IsScan whole p t u
  scan_skip u ahead = record {
    at = scan.at + ahead.skipped;
    within = let h = ahead.within in let n = ap length scan.left ∙ length-drop scan.at t in let g = scan.within in omega arith;
    left = ahead.left ∙ ap (drop ahead.skipped) scan.left ∙ drop-drop ahead.skipped scan.at t;
    before = λ s r low e. ⊎_elim
        (λ early. scan.before s r early e)
        (λ late. ahead.nowhere (s - scan.at) (omega arith) r (subst (λ y. Leaves p y r) (sym (ap (drop (s - scan.at)) scan.left ∙ later_place t scan.at s late)) e.leaves))
        (cases_lt s scan.at);
  }

  -- nothing matches here
  pub scan_next : (c : ℕ) (u : List ℕ) → rest ≡ c ∷ u → IsAnswer whole p rest None → IsScan whole p t u
  scan_next c u is none = record {
    at = scan.at + 1;
    within = let n = ap length is in let m = ap length scan.left ∙ length-drop scan.at t in omega arith;
    left = ap (drop 1) (sym is ∙ scan.left) ∙ drop-drop 1 scan.at t;
    before = λ s r low e. ⊎_elim
        (λ early. scan.before s r early e)
        (λ late. let same : s ≡ scan.at = omega arith in none r (subst (λ y. Ends whole p y r) (ap (λ k. drop k t) same ∙ sym scan.left) e))
        (cases_lt s scan.at);
  }

  -- nothing matches at the text's end
  pub scan_ends : rest ≡ [] → IsAnswer whole p rest None → (s : ℕ) (r : List ℕ) → s ≤ length t → Ends whole p (drop s t) r → ⊥
  scan_ends is none s r low e = ⊎_elim
      (λ early. scan.before s r early e)
      (λ late.
      let n = ap length is in
      let m = ap length scan.left ∙ length-drop scan.at t in
      let same : s ≡ scan.at = omega arith in
      none r (subst (λ y. Ends whole p y r) (ap (λ k. drop k t) same ∙ sym scan.left) e))
      (cases_lt s scan.at)

  -- nothing matches here or later
  pub scan_stops : ((k : ℕ) (r : List ℕ) → Ends whole p (drop k rest) r → ⊥) → (s : ℕ) (r : List ℕ) → s ≤ length t → Ends whole p (drop s t) r → ⊥
  scan_stops none s r low e = ⊎_elim
      (λ early. scan.before s r early e)
      (λ late. none (s - scan.at) r (subst (λ y. Ends whole p y r) (sym (ap (drop (s - scan.at)) scan.left ∙ later_place t scan.at s late)) e))
      (cases_lt s scan.at)

  -- the first match
  pub scan_finds : (n : ℕ) → IsLongest whole p rest n → IsFirstReach whole p t (length t - length rest) (length t - n)
  scan_finds n h =
      let m = ap length scan.left ∙ length-drop scan.at t in
      let w = scan.within in
      let start : length t - length rest ≡ scan.at = omega arith in
      let k = ap length h.ends.leaves.split ∙ length-append h.ends.leaves.taken h.rest in
      let count = h.count in
      let left : n ≡ length t - (length t - n) = omega arith in
      let rest_is : rest ≡ drop (length t - length rest) t = scan.left ∙ ap (λ i. drop i t) (sym start) in
      record {
        within = omega arith;
        before_end = omega arith;
        longest = subst (λ i. IsLongest whole p (drop (length t - length rest) t) i) left (subst (λ y. IsLongest whole p y n) rest_is h);
        first = λ s r low e. scan.before s r (omega arith) e;
      }

-- what is found first is the first span of a pattern that nothing binds to the start
pub first_span : (p t : List ℕ) (s e : ℕ) → (IsTrue (binds_start p) → ⊥) → IsFirstReach (binds_end p) (body p) t s e → IsFirstSpan p t s e
first_span p t s e free h = record {
  span = ends_span p t s e h.longest.rest h.within h.before_end (λ b. absurd (free b)) h.longest.count h.longest.ends;
  first = λ s' e' span. ⊎_elim (λ low. absurd (h.first s' (drop e' t) low (span_ends p t s' e' span))) (λ late. late) (cases_lt s' s);
  longest = λ e' span. let g = h.longest.least (drop e' t) (span_ends p t s e' span) in let n = length-drop e' t in let w = span.within in let b = h.before_end in omega arith;
}

pub no_span : (p t : List ℕ) → ((s : ℕ) (r : List ℕ) → s ≤ length t → Ends (binds_end p) (body p) (drop s t) r → ⊥) → (s e : ℕ) → IsSpan p t s e → ⊥
no_span p t none s e span = none s (drop e t) (let a = span.ordered in let b = span.within in omega arith) (span_ends p t s e span)

-- the same for a pattern that is bound to the start
pub bound_span : (p t : List ℕ) (n : ℕ) → IsTrue (binds_start p) → IsLongest (binds_end p) (body p) t n → IsFirstSpan p t 0 (length t - n)
bound_span p t n bound h =
    let k = ap length h.ends.leaves.split ∙ length-append h.ends.leaves.taken h.rest in
    let count = h.count in
    record {
      span = ends_span p t 0 (length t - n) h.rest (omega arith) (omega arith) (λ b. refl) (omega arith) h.ends;
      first = λ s e span. omega arith;
      longest = λ e span. let g = h.least (drop e t) (span_ends p t 0 e span) in let m = length-drop e t in let w = span.within in omega arith;
    }

pub span_at_start : (p t : List ℕ) (s e : ℕ) → IsTrue (binds_start p) → s ≡ 0 → e ≤ length t → IsLongest (binds_end p) (body p) t (length t - e) → IsFirstSpan p t s e
span_at_start p t s e bound zero within h =
    let same : length t - (length t - e) ≡ e = omega arith in
    subst (λ (k : ℕ). IsFirstSpan p t k e) (sym zero) (subst (λ (k : ℕ). IsFirstSpan p t 0 k) same (bound_span p t (length t - e) bound h))

pub no_bound_span : (p t : List ℕ) → IsTrue (binds_start p) → IsAnswer (binds_end p) (body p) t None → (s e : ℕ) → IsSpan p t s e → ⊥
no_bound_span p t bound none s e span =
    none (drop e t) (subst (λ k. Ends (binds_end p) (body p) (drop k t) (drop e t)) (span.at_start bound) (span_ends p t s e span))
