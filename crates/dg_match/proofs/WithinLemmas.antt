-- A hit lies in the bytes, and its groups lie in the hit.
use Rattle.std.proofs.Common.{◌≡◌, ℕ, zero, suc, ◌+◌, ◌*◌, ◌-◌, ◌≤◌, List, [], length, map, Option, None, Some, option_map, option_and_then, IfSome, refl, sym, ap, ap₂, subst, ⊎_elim, ◌∙◌, ne_eqb, false, arith}
use Rattle.std.proofs.lemmas.Bool.{cond-false}
use Rattle.std.proofs.lemmas.List.Elements.{All-nil, All-cons, All-weaker}
use Rattle.std.proofs.lemmas.Option.{none-some, same_Some}
use Rattle.std.specs.List.{All, range_with_len}
use Rattle.std.specs.Option.{option_or}
use Rattle.regex_hir.specs.Find.{Match, find, slot_of, last_write}
use Rattle.regex_hir.proofs.OptionLemmas.{option_or-None}
use Rattle.regex_syntax.specs.Brackets.{Nested}
use Rattle.regex_syntax.specs.Grammar.{Names}
use Rattle.regex.specs.Patterns.{Re}
use Rattle.regex.specs.Writes.{group_of, both, IsTidy}
use Rattle.regex.proofs.SearchLemmas.{leftmost_attempt, leftmost_within}
use Rattle.regex.proofs.WritesLemmas.{last_write_has, writes_are_tidy}
use Rattle.dg_glob.specs.declared.glob.Span.{Span}
use Rattle.dg_match.specs.Regexes.{pattern_read}
use Rattle.dg_match.specs.Groups.{span_of, found_of, regex_match}
use Rattle.dg_match.specs.Hits.{IsAnswer, IsMatch, LiesBetween, LiesIn, hit_at}
use Rattle.dg_match.specs.declared.found.Found.{Found}
use Rattle.dg_match.specs.declared.pattern.Pattern.{Pattern}
use Rattle.dg_match.specs.declared.pattern.Pattern.TheVariants.{Glob, Exact, Regex}

-- the same of a match
abbrev Lies : List ℕ → Found → Type 0
Lies bytes m = (m.start ≤ m.end) × (m.end ≤ length bytes) × All (λ g. IfSome g (LiesBetween m.start m.end)) m.groups

-- what holds of every group holds of the list of groups
all_groups : (P : Span → Type 0) (at : ℕ → Option (ℕ × ℕ)) → ((n : ℕ) → 1 ≤ n → IfSome (option_map span_of (at n)) P) →
    (first count : ℕ) → 1 ≤ first → All (λ (g : Option Span). IfSome g P) (map (λ n. option_map span_of (at n)) (range_with_len first count))
all_groups P at each first zero low = All-nil (λ (g : Option Span). IfSome g P)
all_groups P at each first (suc count) low =
    All-cons (λ (g : Option Span). IfSome g P) _ _ (each first low) (all_groups P at each (first + 1) count (omega arith))

-- the slots of a group are those that the pattern wrote
slot_written : (m : Match) (slot : ℕ) → 2 ≤ slot → slot_of m slot ≡ last_write m.trace.writes slot
unfolding slot_of
slot_written m slot high =
    ap₂ option_or
    (ap (option_or (last_write m.trace.writes slot)) (cond-false _ (Some m.trace.end) None (ne_eqb 1 slot (omega arith)))
    ∙ option_or-None _)
    (cond-false _ (Some m.start) None (ne_eqb 0 slot (omega arith)))
    ∙ option_or-None _

-- a group that took part lies in the match
group_lies : (m : Match) (n : ℕ) → 1 ≤ n → IsTidy (λ _. Unit {0}) m.start m.trace.end m.trace.writes →
    IfSome (option_map span_of (group_of m n)) (LiesBetween m.start m.trace.end)
group_lies m n low tidy =
    let Lying : Option (ℕ × ℕ) → Type 0 = λ o. IfSome (option_map span_of o) (LiesBetween m.start m.trace.end) in
    let Placed : ℕ → Type 0 = λ x. (m.start ≤ x) × (x ≤ m.trace.end) in
    let placed : All (λ (w : ℕ × ℕ). Placed w.1) m.trace.writes =
    All-weaker (λ (w : ℕ × ℕ). (m.start ≤ w.1) × (w.1 ≤ m.trace.end) × Unit {0}) (λ w. Placed w.1) (λ w h. (h.0, h.1)) m.trace.writes tidy.placed in
    let first = slot_written m (2 * n) (omega arith) in
    let last = slot_written m (2 * n + 1) (omega arith) in
    ⊎_elim
    (λ none. subst Lying (sym (ap₂ both (first ∙ none.0) (last ∙ none.1))) tt)
    (λ set.
    let from = last_write_has Placed m.trace.writes (2 * n) set.0 placed set.2 in
    let to = last_write_has Placed m.trace.writes (2 * n + 1) set.1 placed set.3 in
    subst Lying (sym (ap₂ both (first ∙ set.2) (last ∙ set.3))) (from.0, set.4, to.1))
    (tidy.paired n)

search_lies : (count : ℕ) (re : Re) (bytes : List ℕ) (m : Found) (o : Option Match) → find re bytes 0 ≡ o → option_map (found_of count) o ≡ Some m → Lies bytes m
search_lies count re bytes m None is e = absurd (none-some m e)
search_lies count re bytes m (Some found) is e =
    let within = leftmost_within re bytes false 0 found is in
    let tidy = writes_are_tidy bytes re found.start found.trace (leftmost_attempt re bytes false 0 found is).2 in
    subst (Lies bytes) (same_Some _ _ e)
    (within.1, within.2, all_groups (LiesBetween found.start found.trace.end) (group_of found) (λ n low. group_lies found n low tidy) 1 (count - 1) (omega arith))

read_lies : (o : Option (Nested Re × Names)) (bytes : List ℕ) (m : Found) →
    option_and_then (λ (re, names). option_map (found_of (length names)) (find re.value bytes 0)) o ≡ Some m → Lies bytes m
read_lies None bytes m e = absurd (none-some m e)
read_lies (Some x) bytes m e = search_lies (length x.1) x.0.value bytes m (find x.0.value bytes 0) refl e

no_groups_lie : (m : Found) → m.groups ≡ [] → All (λ g. IfSome g (LiesBetween m.start m.end)) m.groups
no_groups_lie m e = let Lying : Option Span → Type 0 = λ g. IfSome g (LiesBetween m.start m.end) in subst (All Lying) (sym e) (All-nil Lying)

match_lies : (p : Pattern) (bytes : List ℕ) (m : Found) → IsMatch p bytes m → Lies bytes m
match_lies (Glob p) bytes m h = (h.0.span.ordered, h.0.span.within, no_groups_lie m h.1)
match_lies (Exact t) bytes m h =
    let fits = h.0.least.place.fits in
    let behind = h.0.behind in
    (omega arith, omega arith, no_groups_lie m h.1)
match_lies (Regex t) bytes m h = read_lies (pattern_read t) bytes m h

-- the hit that a pattern's answer gives lies in the bytes
pub answer_lies : (p : Pattern) (bytes : List ℕ) (o : Option Found) (m : Found) (index : ℕ) → o ≡ Some m → IsAnswer p bytes o →
    LiesIn bytes (record { index = index; start = m.start; end = m.end; groups = m.groups })
answer_lies p bytes None m index is h = absurd (none-some m is)
answer_lies p bytes (Some found) m index is h =
    let lies = subst (Lies bytes) (same_Some _ _ is) (match_lies p bytes found h) in
    record { ordered = lies.0; within = lies.1; groups = lies.2 }

-- the first match of a `-re` pattern lies in the bytes
pub regex_lies : (t bytes : List ℕ) (o : Option Found) → o ≡ regex_match t bytes → IfSome o (λ m. LiesIn bytes (hit_at 0 m))
regex_lies t bytes None e = tt
regex_lies t bytes (Some m) e = answer_lies (Regex t) bytes (Some m) m 0 refl (sym e)
