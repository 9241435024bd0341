-- Worlds whose books grow.
use Rattle.std.specs.Prelude.{◌≡◌, ◌++◌, ℕ, List}
use Rattle.dg_match.specs.declared.reading.Reading.{Reading}
use Rattle.dg_world.specs.World.{WorldView}

-- more patterns may stand last in the book, and nothing else has changed
abbrev pub IsGrown : WorldView → WorldView → Type 0
IsGrown old new = (more : List (List ℕ × Reading)) × (new ≡ record old { book = old.book ++ more })
