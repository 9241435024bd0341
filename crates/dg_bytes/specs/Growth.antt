-- How the canonical text of a list grows with more elements.
use Rattle.std.specs.Prelude.{◌≡◌, ℕ, ◌<◌, ◌≤◌, List, ◌++◌, length}
use Rattle.dg_bytes.specs.Canonical.{text_of_list}
use Rattle.dg_bytes.specs.declared.bytes.Growth.{Growth}
use Rattle.dg_bytes.specs.declared.bytes.Growth.TheVariants.{Done, TooLong, Unlisted}

-- the outcome of growing a text to the list with more elements, if that has at most so many bytes
abbrev pub Grows : Growth → List ℕ → List (List ℕ) → ℕ → List ℕ → Type 0
Grows Done old more longest new = (xs : List (List ℕ)) × ((old ≡ text_of_list xs) × (new ≡ text_of_list (xs ++ more)) × (length new ≤ longest))
Grows TooLong old more longest new = (xs : List (List ℕ)) × ((old ≡ text_of_list xs) × (longest < length (text_of_list (xs ++ more))) × (new ≡ old))
Grows Unlisted old more longest new = new ≡ old
