-- What stands behind a field and a space.
use Rattle.std.specs.Prelude.{ℕ, List, [], Option, Some, None}
use Rattle.std.specs.List.{slice_split}
use Rattle.dg_transcript.specs.Fields.{is_space}

-- the fields of what is behind a space; of a line's last field there is nothing behind
abbrev pub behind : Option (List ℕ) → List (List ℕ)
behind None = []
behind (Some text) = slice_split is_space text
