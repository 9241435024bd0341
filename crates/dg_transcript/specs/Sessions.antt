-- The sessions that lines tell of, and their entries.
use Rattle.std.specs.Prelude.{ℕ, zero, suc, List, [], ◌∷◌, slice_get, Option, None, option_and_then}
use Rattle.dg_transcript.specs.declared.entry.Entry.{Entry}
use Rattle.dg_transcript.specs.declared.line.Line.{Line}
use Rattle.dg_transcript.specs.declared.line.Line.TheVariants as line

-- the entries in front of the next session
abbrev pub first_entries : List Line → List Entry
first_entries [] = []
first_entries (line.Header ∷ ls) = first_entries ls
first_entries (line.Session n ∷ ls) = []
first_entries (line.Said e ∷ ls) = e ∷ first_entries ls
first_entries (line.Done ∷ ls) = first_entries ls

abbrev pub sessions_in : List Line → List (List Entry)
sessions_in [] = []
sessions_in (line.Header ∷ ls) = sessions_in ls
sessions_in (line.Session n ∷ ls) = first_entries ls ∷ sessions_in ls
sessions_in (line.Said e ∷ ls) = sessions_in ls
sessions_in (line.Done ∷ ls) = sessions_in ls

-- the entry of a session, counted from 1, at a place, counted from 0; none where there is no such
-- session or its record has ended
abbrev pub entry_at : List (List Entry) → ℕ → ℕ → Option Entry
entry_at ss zero place = None
entry_at ss (suc n) place = option_and_then (λ es. slice_get es place) (slice_get ss n)
