-- The hit of a list of patterns in bytes, as expect(1) finds it.
use Rattle.std.specs.Prelude.{◌≡◌, ℕ, ◌+◌, ◌<◌, ◌≤◌, List, [], ◌∷◌, length, Option, Some, None, option_map, IfSome, MatchOption}
use Rattle.std.specs.List.{All, HoldsAt, AllWithin}
use Rattle.dg_glob.specs.Glob.{IsSpan, IsFirstSpan}
use Rattle.dg_glob.specs.Tests.{first_span}
use Rattle.dg_glob.specs.declared.glob.Span.{Span}
use Rattle.dg_match.specs.Literals.{IsNowhere, IsFirstPlace, least_place}
use Rattle.dg_match.specs.Groups.{regex_match}
use Rattle.dg_match.specs.declared.found.Found.{Found}
use Rattle.dg_match.specs.declared.hit.Hit.{Hit}
use Rattle.dg_match.specs.declared.pattern.Pattern.{Pattern}
use Rattle.dg_match.specs.declared.pattern.Pattern.TheVariants.{Glob, Exact, Regex}

-- a match without groups, from one place to another
abbrev pub ungrouped : ℕ × ℕ → Found
ungrouped p = record { start = p.0; end = p.1; groups = [] }

-- the pattern's match in the bytes, if there is one: of a glob the span with the least start, and with the greatest end of
-- those; of a literal the first place at which it stands; of a `-re` pattern the first match with its groups
unfoldable pub match_of : Pattern → List ℕ → Option Found
match_of (Glob p) bytes = option_map ungrouped (first_span p bytes)
match_of (Exact t) bytes = option_map (λ k. ungrouped (k, k + length t)) (least_place t bytes)
match_of (Regex t) bytes = regex_match t bytes

-- the hit of the pattern of this index
abbrev pub hit_at : ℕ → Found → Hit
hit_at i m = record { index = i; start = m.start; end = m.end; groups = m.groups }

-- the match of the first of the patterns that has one, of which the first has this index
abbrev pub hit_from : ℕ → List Pattern → List ℕ → Option Hit
hit_from i [] bytes = None
hit_from i (p ∷ patterns) bytes =
    elim (match_of p bytes) as (λ _. Option Hit) [ None ↦ hit_from (i + 1) patterns bytes | Some m ↦ Some (hit_at i m) ]

-- the hit of a list of patterns in bytes: the match of the first listed one that has a match
unfoldable pub hit_of : List Pattern → List ℕ → Option Hit
hit_of patterns bytes = hit_from 0 patterns bytes

-- The same as relations. No part of the bytes matches the pattern.
abbrev pub HasNoMatch : Pattern → List ℕ → Type 0
HasNoMatch (Glob p) bytes = (s e : ℕ) → IsSpan p bytes s e → ⊥
HasNoMatch (Exact t) bytes = IsNowhere t bytes
HasNoMatch (Regex t) bytes = regex_match t bytes ≡ None

-- a match of the pattern in the bytes
abbrev pub IsMatch : Pattern → List ℕ → Found → Type 0
IsMatch (Glob p) bytes m = IsFirstSpan p bytes m.start m.end × (m.groups ≡ [])
IsMatch (Exact t) bytes m = IsFirstPlace t bytes m.start m.end × (m.groups ≡ [])
IsMatch (Regex t) bytes m = regex_match t bytes ≡ Some m

-- The match of the first of the patterns that has one.
pub record IsHit (patterns : List Pattern) (bytes : List ℕ) (hit : Hit) : Type 0 where
  pub listed : hit.index < length patterns
  pub matched : HoldsAt (λ p. IsMatch p bytes (record { start = hit.start; end = hit.end; groups = hit.groups })) patterns hit.index
  pub first : AllWithin (λ p. HasNoMatch p bytes) patterns 0 hit.index

-- the hit, or none where no pattern has a match
abbrev pub IsTried : List Pattern → List ℕ → Option Hit → Type 0
IsTried patterns bytes result = MatchOption result (All (λ p. HasNoMatch p bytes) patterns) (IsHit patterns bytes)

-- the same for one pattern
abbrev pub IsAnswer : Pattern → List ℕ → Option Found → Type 0
IsAnswer p bytes answer = MatchOption answer (HasNoMatch p bytes) (IsMatch p bytes)

-- the span goes forward, from the one place on and no further than the other
abbrev pub LiesBetween : ℕ → ℕ → Span → Type 0
LiesBetween low high s = (low ≤ s.start) × (s.start ≤ s.end) × (s.end ≤ high)

-- The hit is a part of the bytes, and each of its groups that took part is a part of the hit.
pub record LiesIn (bytes : List ℕ) (hit : Hit) : Type 0 where
  pub ordered : hit.start ≤ hit.end
  pub within : hit.end ≤ length bytes
  pub groups : All (λ g. IfSome g (LiesBetween hit.start hit.end)) hit.groups
