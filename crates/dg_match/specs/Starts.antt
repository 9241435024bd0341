-- Places at which the target of a search can't stand any more.
use Rattle.std.specs.Prelude.{ℕ, ◌<◌, List, ◌++◌}
use Rattle.std.specs.List.{All}
use Rattle.memchr.specs.Find.{OccursAt}
use Rattle.dg_glob.specs.Parts.{IsTrail}
use Rattle.dg_match.specs.declared.starts.Sought.{Sought}
use Rattle.dg_match.specs.declared.starts.Sought.TheVariants.{Text, Glob}
use Rattle.dg_match.specs.declared.starts.Progress.{Progress}

-- whatever comes behind the bytes, the text stands at none of the first n places
abbrev pub IsPassed : List ℕ → List ℕ → ℕ → Type 0
IsPassed text bytes n = (more : List ℕ) (k : ℕ) → k < n → OccursAt (bytes ++ more) text k → ⊥

-- so it is of a text that is looked for; of a glob, whatever comes behind, each match has the parts behind those that are
-- found from the n-th place on
abbrev pub IsOut : List ℕ → Sought → ℕ → ℕ → Type 0
IsOut bytes (Text text) found n = IsPassed text bytes n
IsOut bytes (Glob glob) found n = IsTrail glob found bytes n

abbrev pub IsKept : List ℕ → Progress → Type 0
IsKept bytes s = IsOut bytes s.sought s.found s.passed

-- this is so of all that is remembered
abbrev pub AllKept : List ℕ → List Progress → Type 0
AllKept bytes starts = All (IsKept bytes) starts
