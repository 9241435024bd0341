-- From what a search ensures to the first match of the text.
use Rattle.std.proofs.Common.{◌≡◌, ℕ, zero, suc, ◌+◌, ◌-◌, ◌*◌, ◌<◌, ◌≤◌, false, List, ◌∷◌, [], ◌++◌, get_or, Option, None, Some, option_map, option_and_then, length, map, refl, sym, ap, ap₂, ◌∙◌, arith}
use Rattle.std.proofs.lemmas.List.FromFn.{map-range_with_len_more}
use Rattle.std.proofs.lemmas.Option.{none-some, same_Some}
use Rattle.std.specs.List.{range_with_len}
use Rattle.regex_hir.specs.Find.{Match, find, slot_of}
use Rattle.regex_vm.specs.Found.{span}
use Rattle.regex_syntax.specs.Brackets.{Nested}
use Rattle.regex_syntax.specs.Grammar.{Names}
use Rattle.regex.specs.Patterns.{Re}
use Rattle.regex.specs.Bytes.{regex_source, regex_pattern, regex_names}
use Rattle.regex.specs.Locations.{location_count, AreLocationsOf}
use Rattle.regex.specs.Writes.{group_of, both}
use Rattle.regex.specs.declared.bytes.regex.Regex.{Regex}
use Rattle.regex.specs.declared.locations.CaptureLocations.{CaptureLocations}
use Rattle.regex.proofs.ForCallers.{span_alike, found_alike}
use Rattle.dg_match.specs.Regexes.{IsBuilt}
use Rattle.dg_match.specs.Groups.{span_of, groups_of, found_of, regex_match, groups_in}
use Rattle.dg_match.specs.declared.found.Found.{Found}
use Rattle.dg_glob.specs.declared.glob.Span.{Span}
use Rattle.dg_match.proofs.RegexLemmas.{SameAsRead, same_as_read}

-- one group more
pub groups_more : (at : ℕ → Option (ℕ × ℕ)) (n : ℕ) → 1 ≤ n → groups_of (n + 1) at ≡ groups_of n at ++ option_map span_of (at n) ∷ []
groups_more at n h =
    let e : n + 1 - 1 ≡ (n - 1) + 1 = omega arith in
    rw e (map-range_with_len_more (λ k. option_map span_of (at k)) 1 (n - 1) n (omega arith))

map_range_same : {X : Type 0} (f g : ℕ → X) (a n : ℕ) → ((k : ℕ) → a ≤ k → k < a + n → f k ≡ g k) →
    map f (range_with_len a n) ≡ map g (range_with_len a n)
map_range_same f g a zero h = refl
map_range_same f g a (suc n) h =
    ap₂ ◌∷◌ (h a (omega arith) (omega arith)) (map_range_same f g (a + 1) n (λ k p q. h k (omega arith) (omega arith)))

groups_same : (count : ℕ) (f g : ℕ → Option (ℕ × ℕ)) → ((k : ℕ) → 1 ≤ k → k < count → f k ≡ g k) → groups_of count f ≡ groups_of count g
groups_same count f g h =
    map_range_same _ _ 1 (count - 1) (λ k p q. ap (option_map span_of) (h k p (omega arith)))

pub none_alike : (o q : Option Match) → option_map span o ≡ option_map span q → o ≡ None → q ≡ None
none_alike o None e h = refl
none_alike o (Some m) e h = absurd (none-some _ (sym (ap (option_map span) h) ∙ e))

group_of_slots : (m n : Match) → slot_of n ≡ slot_of m → (k : ℕ) → group_of m k ≡ group_of n k
group_of_slots m n e k = ap (λ (f : ℕ → Option ℕ). both (f (2 * k)) (f (2 * k + 1))) (sym e)

hit_from : ℕ × ℕ → List (Option Span) → Found
hit_from s gs = record { start = s.0; end = s.1; groups = gs }

hit_at : Option (Nested Re × Names) → List ℕ → Option Found
hit_at o hay = option_and_then (λ (re, names). option_map (found_of (length names)) (find re.value hay 0)) o

module _ (r : Regex) (hay : List ℕ) (bytes : (k : ℕ) → get_or hay k 0 < 256) where
  none_here : (o : Option (Nested Re × Names)) → SameAsRead r o → find (regex_pattern r) hay 0 ≡ None → None ≡ hit_at o hay
  unfolding hit_at
  none_here None h e = absurd h
  none_here (Some x) h e = rw (none_alike _ _ (span_alike h.0 hay bytes false 0) e)

  -- where the search finds nothing, the text has no match
  pub no_hit : IsBuilt r → find (regex_pattern r) hay 0 ≡ None → None ≡ regex_match (regex_source r) hay
  unfolding hit_at
  no_hit built e = none_here _ (same_as_read r built) e

  some_here : (o : Option (Nested Re × Names)) → SameAsRead r o → (m : Match) → find (regex_pattern r) hay 0 ≡ Some m →
      Some (found_of (length (regex_names r)) m) ≡ hit_at o hay
  unfolding hit_at hit_from
  some_here None h m e = absurd h
  some_here (Some x) h m e =
      let there = found_alike h.0 hay bytes false 0 m e in
      let n = there.0 in
      let same_span : span m ≡ span n =
      same_Some _ _ (ap (option_map span) (sym e) ∙ span_alike h.0 hay bytes false 0 ∙ ap (option_map span) there.1) in
      let same_groups : groups_of (length x.1) (group_of m) ≡ groups_of (length x.1) (group_of n) =
      groups_same _ _ _ (λ k _ _. group_of_slots m n there.2 k) in
      let at_read : found_of (length x.1) m ≡ found_of (length x.1) n =
      ap₂ (λ (s : ℕ × ℕ) (gs : List (Option Span)). hit_from s gs) same_span same_groups in
      ap (λ names. Some (found_of (length names) m)) h.1 ∙ ap Some at_read ∙ sym (ap (option_map (found_of (length x.1))) there.1)

  -- where it finds a match, and its groups are read, they are those of the text's first match
  pub hit_found : IsBuilt r → (m : Match) → find (regex_pattern r) hay 0 ≡ Some m → (l : CaptureLocations) →
      location_count l ≡ length (regex_names r) → AreLocationsOf m l →
      (start end : ℕ) (groups : List (Option Span)) → start ≡ (span m).0 → end ≡ (span m).1 → groups ≡ groups_in l →
      Some (record { start = start; end = end; groups = groups }) ≡ regex_match (regex_source r) hay
  unfolding hit_at
  hit_found built m e l count locations start end groups s t g =
      let read : groups ≡ groups_of (length (regex_names r)) (group_of m) =
      g ∙ groups_same _ _ _ (λ k p q. locations.1 k p q) ∙ ap (λ n. groups_of n (group_of m)) count in
      rw (s, t, read) (some_here _ (same_as_read r built) m e)
