-- How the parts of a pattern are read.
use Rattle.std.specs.Prelude.{ℕ, ◌+◌, ◌<◌, ◌≤◌, true, false, ◌≡◌, List, [], ◌∷◌, length, drop, slice_index, slice_index_or, if◌then◌else◌}
use Rattle.dg_glob.specs.Items.{is_plain}
use Rattle.dg_glob.specs.Parts.{Item, begins_steadily, behind_item}
use Rattle.dg_glob.specs.declared.parts.Part.{Part}

-- from one end of a pattern to a later one there are these items
pub data Steps : List ℕ → List Item → List ℕ → Type 0 where
  no_step : (p : List ℕ) → Steps p [] p
  step : (p q : List ℕ) (items : List Item) → begins_steadily p ≡ true → Steps (behind_item p) items q → Steps p (p ∷ items) q

-- the bytes at the front of a pattern that stand for themselves
abbrev pub plain_front : List ℕ → List ℕ
plain_front [] = []
plain_front (x ∷ p) = if is_plain x then x ∷ plain_front p else []

-- an item takes one byte alone, which stands for itself
pub record IsByte (i : Item) (x : ℕ) : Type 0 where
  pub behind : List ℕ
  pub split : i ≡ x ∷ behind
  pub plain : is_plain x ≡ true

-- these bytes are what the items behind the first few take
pub record IsRun (items : List Item) (run : List ℕ) (lead : ℕ) : Type 0 where
  pub within : lead + length run ≤ length items
  pub bytes : (j : ℕ) → j < length run → IsByte (slice_index_or items (lead + j) []) (slice_index run j)

-- what was read of a part so far: how many items, a run of bytes with how many items stand before it, and what is left
pub record IsRead (pattern : List ℕ) (size lead : ℕ) (run rest : List ℕ) : Type 0 where
  pub items : List Item
  pub steps : Steps pattern items rest
  pub count : length items ≡ size
  pub has_run : IsRun items run lead

-- a part that was read from a pattern is the part of these items
pub record IsPart (pattern : List ℕ) (part : Part) (items : List Item) : Type 0 where
  pub rest : List ℕ
  pub begins : part.begin ≤ length pattern
  pub steps : Steps (drop part.begin pattern) items rest
  pub ends : begins_steadily rest ≡ false
  pub count : length items ≡ part.size
  pub has_run : IsRun items part.run part.lead

-- this is so of each of them
pub record AreParts (pattern : List ℕ) (parts : List Part) (all : List (List Item)) : Type 0 where
  pub count : length parts ≡ length all
  pub each : (k : ℕ) (d : Part) → k < length parts → IsPart pattern (slice_index_or parts k d) (slice_index_or all k [])
