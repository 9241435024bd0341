-- The places of records in a lineup.
use Rattle.std.proofs.Common.{◌≡◌, ◌∙◌, ℕ, zero, suc, ◌<◌, Bool, true, false, cond, List, [], ◌∷◌, map, length, get_or, refl, ap, sym, subst, arith}
use Rattle.std.specs.Prelude.{Option, Some, None, slice_get, unwrap_or, option_map, option_and_then}
use Rattle.dg_world.specs.Test.{same_test}
use Rattle.dg_world.specs.World.{WorldView}
use Rattle.dg_world.specs.declared.test_id.TestId.{TestId}
use Rattle.dg_records.specs.Truth.{RecordView}
use Rattle.dg_records.specs.Shelf.{kept}
use Rattle.dg_index.specs.Kept.{holds_if_kept, is_held, place_of}
use Rattle.dg_core.specs.Lineup.{IsPlace, ArePlaces}

-- the record of a test is the one at its place
pub kept-place : (s : List RecordView) (t : TestId) → kept s t ≡ option_and_then (slice_get s) (place_of s t)
kept-place [] t = refl
kept-place (x ∷ xs) t = step (same_test t x.test) (place_of xs t) (kept-place xs t)
  where
    step : (b : Bool) (o : Option ℕ) → kept xs t ≡ option_and_then (slice_get xs) o
        → cond b (Some x) (kept xs t) ≡ option_and_then (slice_get (x ∷ xs)) (cond b (Some 0) (option_map suc o))
    step true o ih = refl
    step false None ih = ih
    step false (Some i) ih = ih

pub kept-at : (s : List RecordView) (t : TestId) (i : ℕ) → place_of s t ≡ Some i → kept s t ≡ slice_get s i
kept-at s t i h = kept-place s t ∙ ap (option_and_then (slice_get s)) h

-- a test is held where the record at its place holds
pub held-at-place : (w : WorldView) (s : List RecordView) (t : TestId) (i : ℕ) → place_of s t ≡ Some i → holds_if_kept w (slice_get s i) ≡ is_held w s t
held-at-place w s t i h = ap (holds_if_kept w) (sym (kept-at s t i h))

pub unheld-nowhere : (w : WorldView) (s : List RecordView) (t : TestId) → place_of s t ≡ None → false ≡ is_held w s t
unheld-nowhere w s t h = ap (holds_if_kept w) (sym (kept-place s t ∙ ap (option_and_then (slice_get s)) h))

-- each test's own place is one
pub place-own : (s : List RecordView) (ts : List TestId) → ArePlaces s ts (map (place_of s) ts)
place-own s [] = tt
place-own s (t ∷ ts) = (step (place_of s t) refl, place-own s ts)
  where
    step : (o : Option ℕ) → place_of s t ≡ o → IsPlace s t o
    step None e = tt
    step (Some i) e = e

-- the place beside the test that stands here
pub place-at : (s : List RecordView) (ts : List TestId) (ps : List (Option ℕ)) (i : ℕ) (t : TestId) → ArePlaces s ts ps → i < length ts → t ≡ get_or ts i t
    → IsPlace s t (unwrap_or (slice_get ps i) None)
place-at s [] ps i t h l e = absurd (omega arith)
place-at s (u ∷ ts) [] i t h l e = absurd h
place-at s (u ∷ ts) (p ∷ ps) zero t h l e = subst (λ x. IsPlace s x p) (sym e) h.0
place-at s (u ∷ ts) (p ∷ ps) (suc i) t h l e = place-at s ts ps i t h.1 (omega arith) e

-- the place that is known for the test that stands here
pub place-there : (s : List RecordView) (ts : List TestId) (ps : List (Option ℕ)) (i : ℕ) (t : TestId) (place : ℕ) → ArePlaces s ts ps → slice_get ts i ≡ Some t
    → slice_get ps i ≡ Some (Some place) → place_of s t ≡ Some place
place-there s [] ps i t place h here known = cc
place-there s (u ∷ ts) [] i t place h here known = absurd h
place-there s (u ∷ ts) (p ∷ ps) zero t place h here known =
    let same : u ≡ t = cc in
    let is : p ≡ Some place = cc in
    subst (λ x. place_of s x ≡ Some place) same (subst (IsPlace s u) is h.0)
place-there s (u ∷ ts) (p ∷ ps) (suc i) t place h here known = place-there s ts ps i t place h.1 here known

-- there is a place for each test
pub place-within : (s : List RecordView) (ts : List TestId) (ps : List (Option ℕ)) (i : ℕ) (t : TestId) → ArePlaces s ts ps → slice_get ts i ≡ Some t → i < length ps
place-within s [] ps i t h here = cc
place-within s (u ∷ ts) [] i t h here = absurd h
place-within s (u ∷ ts) (p ∷ ps) zero t h here = omega arith
place-within s (u ∷ ts) (p ∷ ps) (suc i) t h here =
    let rest = place-within s ts ps i t h.1 here in
    omega (arith, rest)
