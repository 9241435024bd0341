-- The places of a needle in a text, and matches of globs.
use Rattle.std.specs.Prelude.{ℕ, ◌+◌, List, [], ◌∷◌, length, Option, None}
use Rattle.memchr.specs.Find.{occurs_at}
pub use Rattle.dg_glob.specs.Least.{least_below, greatest_below}
pub use Rattle.dg_glob.specs.Tests.{glob_matches}

-- the first place of a text at which a needle stands; an empty needle stands nowhere
unfoldable pub first_place : List ℕ → List ℕ → Option ℕ
first_place [] text = None
first_place (b ∷ bs) text = least_below (occurs_at text (b ∷ bs)) (length text + 1)

-- the last one
unfoldable pub last_place : List ℕ → List ℕ → Option ℕ
last_place [] text = None
last_place (b ∷ bs) text = greatest_below (occurs_at text (b ∷ bs)) (length text + 1)
