-- A search for a text after passed places: the place that it finds, and the bytes that it reads.
use Rattle.std.specs.Prelude.{◌≡◌, ℕ, ◌≤◌, List, length, None, Some}
use Rattle.dg_match.specs.Literals.{IsNowhere, IsLeastPlace, least_place}
use Rattle.dg_match.specs.Searches.{bytes_compared}
use Rattle.dg_match.specs.declared.search.Place.{Place}
use Rattle.dg_match.specs.declared.search.Place.TheVariants.{At, Nowhere}

-- the least place of the text, if there is one, and how many bytes from a place on are read to find it
abbrev pub IsPlaceOf : ℕ → List ℕ → List ℕ → Place → Type 0
IsPlaceOf from text bytes (At start compared) =
    IsLeastPlace text bytes start × (Some start ≡ least_place text bytes) × (compared ≡ bytes_compared from text bytes (Some start)) × (compared ≤ length bytes)
IsPlaceOf from text bytes (Nowhere compared) =
    IsNowhere text bytes × (None ≡ least_place text bytes) × (compared ≡ bytes_compared from text bytes None) × (compared ≤ length bytes)
