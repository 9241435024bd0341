-- Where a literal stands in bytes.
use Rattle.std.specs.Prelude.{◌≡◌, ℕ, ◌+◌, ◌≤◌, List, length, Option}
use Rattle.memchr.specs.Find.{OccursAt, occurs_at}
use Rattle.dg_glob.specs.Least.{least_below}

-- the literal stands at no place of the bytes
abbrev pub IsNowhere : List ℕ → List ℕ → Type 0
IsNowhere literal bytes = (k : ℕ) → OccursAt bytes literal k → ⊥

-- the least place of the bytes at which the literal stands
pub record IsLeastPlace (literal bytes : List ℕ) (start : ℕ) : Type 0 where
  pub place : OccursAt bytes literal start
  pub least : (k : ℕ) → OccursAt bytes literal k → start ≤ k

-- the literal's first match: from the least place at which it stands to the place behind it there
pub record IsFirstPlace (literal bytes : List ℕ) (start end : ℕ) : Type 0 where
  pub least : IsLeastPlace literal bytes start
  pub behind : end ≡ start + length literal

-- the same as a function
unfoldable pub least_place : List ℕ → List ℕ → Option ℕ
least_place text bytes = least_below (occurs_at bytes text) (length bytes + 1)
