-- Searches in bytes: the place that they find, the bytes that they compare, and the places that they rule out.
use Rattle.std.specs.Prelude.{ℕ, ◌+◌, ◌-◌, Bool, false, List, [], length, nat_eq, nat_le, nat_lt, Option, None, Some, MatchOption, if◌then◌else◌}
use Rattle.std.specs.Cmp.Lexicographic.{pointwise}
use Rattle.dg_glob.specs.Glob.{IsSpan, IsFirstSpan}
use Rattle.dg_glob.specs.Parts.{followed, parts_of}
use Rattle.dg_glob.specs.declared.glob.Span.{Span}
use Rattle.dg_match.specs.Literals.{IsNowhere, IsFirstPlace, least_place}
use Rattle.dg_match.specs.declared.pattern.Pattern.{Pattern}
use Rattle.dg_match.specs.declared.pattern.Pattern.TheVariants as pattern
use Rattle.dg_match.specs.declared.starts.Kind.{Kind}
use Rattle.dg_match.specs.declared.starts.Kind.TheVariants as kind
use Rattle.dg_match.specs.declared.starts.Sought.{Sought}
use Rattle.dg_match.specs.declared.starts.Sought.TheVariants.{Text, Glob}
use Rattle.dg_match.specs.declared.starts.Progress.{Progress}

-- the target of a pattern: a literal itself, the parts of a glob, and no text for a `-re` pattern
abbrev pub sought : Pattern → Sought
sought (pattern.Glob p) = Glob p
sought (pattern.Exact t) = Text t
sought (pattern.Regex t) = Text []

abbrev pub sought_of : Kind → List ℕ → Sought
sought_of kind.Text t = Text t
sought_of kind.Glob p = Glob p

abbrev pub is_same_sought : Sought → Sought → Bool
is_same_sought (Text a) (Text b) = pointwise nat_eq a b
is_same_sought (Text a) (Glob b) = false
is_same_sought (Glob a) (Text b) = false
is_same_sought (Glob a) (Glob b) = pointwise nat_eq a b

-- nothing is known of what is looked for
abbrev pub nothing_known : Sought → Progress
nothing_known k = record { sought = k; found = 0; passed = 0 }

-- how many places a text has passed, by its least place: those before it, or where there is none all at which it fits
abbrev pub places_passed : List ℕ → List ℕ → Option ℕ → ℕ
places_passed text bytes None = length bytes + 1 - length text
places_passed text bytes (Some k) = k

-- How many bytes are compared from a place on, by the least place: those up to the end of the text there. Where there is
-- none they are all that are left, but none if the text is longer.
abbrev pub bytes_compared : ℕ → List ℕ → List ℕ → Option ℕ → ℕ
bytes_compared from text bytes None = if nat_lt (length bytes - from) (length text) then 0 else length bytes - from
bytes_compared from text bytes (Some k) = k + length text - from

-- whether all parts of a glob are found
abbrev pub all_found : List ℕ → ℕ × ℕ → Bool
all_found p r = nat_le (length (parts_of p)) r.0

-- what is known of the parts behind a search: nothing where all were found
abbrev pub left_by : List ℕ → ℕ × ℕ → ℕ × ℕ
left_by p r = if all_found p r then (0, 0) else r

-- how many bytes are compared with a glob: those from the place on at which its next part may stand, and where all its
-- parts are found all bytes
abbrev pub glob_compared : List ℕ → ℕ → ℕ → List ℕ → ℕ
glob_compared p found n bytes = length bytes - n + (if all_found p (followed p found bytes n) then length bytes else 0)

-- the same by what is looked for, with what is known from then on
abbrev pub compared_for : List ℕ → Sought → ℕ → ℕ → ℕ
compared_for bytes (Text t) found n = bytes_compared n t bytes (least_place t bytes)
compared_for bytes (Glob p) found n = glob_compared p found n bytes

abbrev pub known_of : List ℕ → Sought → ℕ → ℕ → Progress
known_of bytes (Text t) found n = record { sought = Text t; found = found; passed = places_passed t bytes (least_place t bytes) }
known_of bytes (Glob p) found n = record { sought = Glob p; found = (left_by p (followed p found bytes n)).0; passed = (left_by p (followed p found bytes n)).1 }

abbrev pub compared_by : List ℕ → Progress → ℕ
compared_by bytes s = compared_for bytes s.sought s.found s.passed

abbrev pub searched : List ℕ → Progress → Progress
searched bytes s = known_of bytes s.sought s.found s.passed

-- the match of what is looked for, if there is one
abbrev pub IsFound : List ℕ → Sought → Option Span → Type 0
IsFound bytes (Text t) o = MatchOption o (IsNowhere t bytes) (λ s. IsFirstPlace t bytes s.start s.end)
IsFound bytes (Glob p) o = MatchOption o ((s e : ℕ) → IsSpan p bytes s e → ⊥) (λ s. IsFirstSpan p bytes s.start s.end)
