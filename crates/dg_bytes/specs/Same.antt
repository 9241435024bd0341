-- Whether two texts, or two lists of them, are the same.
use Rattle.std.specs.Prelude.{ℕ, Bool, List, nat_eq}
use Rattle.std.specs.Cmp.Lexicographic.{pointwise}

abbrev pub same_bytes : List ℕ → List ℕ → Bool
same_bytes = pointwise nat_eq

abbrev pub same_words : List (List ℕ) → List (List ℕ) → Bool
same_words = pointwise same_bytes
