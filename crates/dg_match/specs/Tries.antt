-- The bytes that a buffer has compared, and its memory, once patterns were tried.
use Rattle.std.specs.Prelude.{◌≡◌, ℕ, zero, suc, ◌+◌, ◌≤◌, min, List, [], ◌∷◌, take, Option, None, Some, if◌then◌else◌}
use Rattle.dg_match.specs.Held.{Held}
use Rattle.dg_match.specs.Searches.{compared_by, is_same_sought, nothing_known, searched, sought}
use Rattle.dg_match.specs.declared.starts.Sought.{Sought}
use Rattle.dg_match.specs.declared.starts.Progress.{Progress}
use Rattle.dg_match.specs.declared.hit.Hit.{Hit}
use Rattle.dg_match.specs.declared.pattern.Pattern.{Pattern}

-- what is known of what the pattern of an index looks for: what is remembered of the last try, if that was for the same
abbrev pub known : ℕ → Sought → List Progress → Progress
known i k [] = nothing_known k
known zero k (s ∷ starts) = if is_same_sought s.sought k then s else nothing_known k
known (suc i) k (s ∷ starts) = known i k starts

-- what is remembered, with this for the pattern of an index
abbrev pub remembered : ℕ → Progress → List Progress → List Progress
remembered i s [] = s ∷ []
remembered zero s (old ∷ starts) = s ∷ starts
remembered (suc i) s (old ∷ starts) = old ∷ remembered i s starts

-- the count of compared bytes stays at its last value
abbrev pub counted : ℕ → ℕ
counted n = min n 18446744073709551615

-- the buffer once it was searched for what the pattern of an index looks for
abbrev pub once_sought : ℕ → Sought → Held → Held
once_sought i k h = record h {
  compared = counted (h.compared + compared_by h.bytes (known i k h.starts));
  starts = remembered i (searched h.bytes (known i k h.starts)) h.starts;
}

-- the buffer once the pattern of an index was tried
unfoldable pub once_tried : ℕ → Pattern → Held → Held
once_tried i p h = once_sought i (sought p) h

-- and once all of these were tried, of which the first has this index
unfoldable pub all_tried : ℕ → List Pattern → Held → Held
all_tried i [] h = h
all_tried i (p ∷ patterns) h = all_tried (i + 1) patterns (once_tried i p h)

-- the patterns up to that of the hit, or all of them
abbrev pub up_to : Option Hit → List Pattern → List Pattern
up_to None patterns = patterns
up_to (Some hit) patterns = take (hit.index + 1) patterns

-- at most so many bytes were compared, and nothing changed but their count and what is remembered
abbrev pub HasCompared : ℕ → Held → Held → Type 0
HasCompared most old new =
    (new ≡ record old { compared = new.compared; starts = new.starts }) × (old.compared ≤ new.compared) × (new.compared ≤ old.compared + most)

-- Some of the patterns were tried, from the first on.
pub record AreTried (patterns : List Pattern) (old new : Held) : Type 0 where
  pub count : ℕ
  pub tried : new ≡ all_tried 0 (take count patterns) old
