-- What is kept of places.
use Rattle.std.specs.Prelude.{ℕ, List, [], ◌∷◌}
use Rattle.dg_index.specs.declared.places.Form.{Form}
use Rattle.dg_index.specs.declared.places.Form.TheVariants.{One, Several}

-- the places
abbrev pub places_in : Form → List ℕ
places_in (One place) = place ∷ []
places_in (Several places) = places.keys
