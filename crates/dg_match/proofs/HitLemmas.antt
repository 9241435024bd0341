-- The hit of a list of patterns as a relation is the one of the function.
use Rattle.std.proofs.Common.{◌≡◌, ℕ, zero, suc, ◌+◌, ◌<◌, ◌≤◌, List, [], ◌∷◌, length, Option, None, Some, option_map, refl, sym, ap, subst, get_or, ◌∙◌, arith}
use Rattle.std.specs.List.{All, HoldsAt, AllWithin}
use Rattle.std.proofs.lemmas.Option.{none-some, same_Some}
use Rattle.std.proofs.lemmas.List.Elements.{at_read}
use Rattle.dg_glob.proofs.FirstLemmas.{no_first, some_first}
use Rattle.dg_match.specs.Hits.{HasNoMatch, IsAnswer, IsMatch, IsTried, match_of, hit_at, hit_from, hit_of, ungrouped}
use Rattle.dg_glob.specs.declared.glob.Span.{Span}
use Rattle.dg_match.specs.declared.found.Found.{Found}
use Rattle.dg_match.specs.declared.hit.Hit.{Hit}
use Rattle.dg_match.specs.declared.pattern.Pattern.{Pattern}
use Rattle.dg_match.specs.declared.pattern.Pattern.TheVariants.{Glob, Exact, Regex}
use Rattle.dg_match.proofs.SearchLemmas.{no_least, least_is}

pub match_none : (p : Pattern) (bytes : List ℕ) → HasNoMatch p bytes → match_of p bytes ≡ None
unfolding match_of
match_none (Glob p) bytes h = ap (option_map ungrouped) (sym (no_first p bytes h))
match_none (Exact t) bytes h = ap (option_map (λ (k : ℕ). ungrouped (k, k + length t))) (sym (no_least t bytes h))
match_none (Regex t) bytes h = h

-- a match from one place to another, with these groups
abbrev whole : ℕ → ℕ → List (Option Span) → Found
whole s e g = record { start = s; end = e; groups = g }

pub match_some : (p : Pattern) (bytes : List ℕ) (m : Found) → IsMatch p bytes m → match_of p bytes ≡ Some m
unfolding match_of
match_some (Glob p) bytes m h =
    ap (option_map ungrouped) (sym (some_first p bytes m.start m.end h.0)) ∙ ap (λ (g : List (Option Span)). Some (whole m.start m.end g)) (sym h.1)
match_some (Exact t) bytes m h =
    ap (option_map (λ (k : ℕ). ungrouped (k, k + length t))) (sym (least_is t bytes m.start h.0.least))
    ∙ (ap (λ (e : ℕ). Some (whole m.start e [])) (sym h.0.behind) ∙ ap (λ (g : List (Option Span)). Some (whole m.start m.end g)) (sym h.1))
match_some (Regex t) bytes m h = h

abbrev hit_step : ℕ → List Pattern → List ℕ → Option Found → Option Hit
hit_step i patterns bytes None = hit_from (i + 1) patterns bytes
hit_step i patterns bytes (Some m) = Some (hit_at i m)

hit_none : (i : ℕ) (patterns : List Pattern) (bytes : List ℕ) → All (λ p. HasNoMatch p bytes) patterns → hit_from i patterns bytes ≡ None
hit_none i [] bytes h = refl
hit_none i (p ∷ patterns) bytes h =
    ap (hit_step i patterns bytes) (match_none p bytes (h 0 p (omega arith))) ∙ hit_none (i + 1) patterns bytes (λ k d low. h (suc k) d (omega arith))

hit_some : (n i : ℕ) (patterns : List Pattern) (bytes : List ℕ) (m : Found) → n < length patterns → HoldsAt (λ p. IsMatch p bytes m) patterns n →
    AllWithin (λ p. HasNoMatch p bytes) patterns 0 n → hit_from i patterns bytes ≡ Some (hit_at (i + n) m)
hit_some n i [] bytes m low at first = absurd (omega arith)
hit_some zero i (p ∷ patterns) bytes m low at first =
    let e : i ≡ i + 0 = omega arith in
    ap (hit_step i patterns bytes) (match_some p bytes m (at p)) ∙ ap (λ (j : ℕ). Some (hit_at j m)) e
hit_some (suc n) i (p ∷ patterns) bytes m low at first =
    let e : i + 1 + n ≡ i + suc n = omega arith in
    ap (hit_step i patterns bytes) (match_none p bytes (first 0 p (omega arith) (omega arith)))
    ∙ (hit_some n (i + 1) patterns bytes m (omega arith) (λ d. at d) (λ k d a b. first (suc k) d (omega arith) (omega arith))
    ∙ ap (λ (j : ℕ). Some (hit_at j m)) e)

pub tried_is : (patterns : List Pattern) (bytes : List ℕ) (r : Option Hit) → IsTried patterns bytes r → r ≡ hit_of patterns bytes
unfolding hit_of
tried_is patterns bytes None h = sym (hit_none 0 patterns bytes h)
tried_is patterns bytes (Some hit) h =
    let e : 0 + hit.index ≡ hit.index = omega arith in
    sym (hit_some hit.index 0 patterns bytes (whole hit.start hit.end hit.groups) h.listed h.matched h.first
    ∙ ap (λ (j : ℕ). Some (hit_at j (whole hit.start hit.end hit.groups))) e)

-- the hit at this index, by the answer of its pattern
pub hit_here : (patterns : List Pattern) (p : Pattern) (bytes : List ℕ) (i : ℕ) (m : Found) (o : Option Found) → i < length patterns → p ≡ get_or patterns i p →
    o ≡ Some m → IsAnswer p bytes o → AllWithin (λ q. HasNoMatch q bytes) patterns 0 i → Some (hit_at i m) ≡ hit_of patterns bytes
unfolding hit_of
hit_here patterns p bytes i m None low at is h first = absurd (none-some m is)
hit_here patterns p bytes i m (Some found) low at is h first =
    let e : 0 + i ≡ i = omega arith in
    let matched : IsMatch p bytes m = subst (IsMatch p bytes) (same_Some _ _ is) h in
    sym (hit_some i 0 patterns bytes m low (at_read patterns (λ q. IsMatch q bytes m) i p low at matched) first ∙ ap (λ (j : ℕ). Some (hit_at j m)) e)

-- none has one
pub none_here : (patterns : List Pattern) (bytes : List ℕ) (i : ℕ) → length patterns ≤ i → AllWithin (λ q. HasNoMatch q bytes) patterns 0 i → None ≡ hit_of patterns bytes
unfolding hit_of
none_here patterns bytes i high first = sym (hit_none 0 patterns bytes (λ k d low. first k d (omega arith) (omega arith)))
