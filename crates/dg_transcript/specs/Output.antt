-- What an entry tells of a child's output, and of a call that failed.
use Rattle.std.specs.Prelude.{ℕ, Bool, true, false, List, Option, Some, None}
use Rattle.dg_transcript.specs.declared.entry.Entry.{Entry}
use Rattle.dg_transcript.specs.declared.entry.Entry.TheVariants as entry

-- what came from the child: after a wait, these bytes
abbrev pub output_of : Entry → Option (ℕ × List ℕ)
output_of (entry.Chunk wait bytes) = Some (wait, bytes)
output_of e = None

-- whether a call failed
abbrev pub is_failure : Entry → Bool
is_failure (entry.NoStart code words) = true
is_failure (entry.NoSend code bytes) = true
is_failure (entry.NoRead code) = true
is_failure (entry.NoClose code) = true
is_failure (entry.NoWait code) = true
is_failure e = false
