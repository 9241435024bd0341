-- The bytes that more elements add to the canonical text of a list.
use Rattle.std.specs.Prelude.{ℕ, List, [], ◌∷◌}
use Rattle.dg_bytes.specs.Canonical.{further_text, text_of_list}

abbrev pub added : List (List ℕ) → List (List ℕ) → List ℕ
added [] more = text_of_list more
added (x ∷ xs) more = further_text more
