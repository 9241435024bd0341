-- One row of marks: for each end of a pattern whether it matches a text so that few bytes are left.
use Rattle.std.specs.Prelude.{ℕ, Bool, true, false, Option, None, Some, List, [], ◌∷◌, ◌≡◌, ◌≤◌, ◌<◌, ◌-◌, ◌↔◌, ◌==◌, ◌&&◌, ◌||◌, if◌then◌else◌, length, drop}
use Rattle.dg_glob.specs.Items.{after_item}
use Rattle.dg_glob.specs.Search.{Leaves}
use Rattle.dg_glob.specs.Marks.{marked}

-- A match of the pattern leaves at most so many bytes of the text.
pub record FewLeft (limit : ℕ) (pattern text : List ℕ) : Type 0 where
  pub rest : List ℕ
  pub leaves : Leaves pattern text rest
  pub few : length rest ≤ limit

-- A match leaves at most so many bytes, which are no more than the most, and none leaves at most fewer.
pub record AreFewest (pattern text : List ℕ) (most few : ℕ) : Type 0 where
  pub cap : few ≤ most
  pub found : FewLeft few pattern text
  pub least : (k : ℕ) → k < few → FewLeft k pattern text → ⊥

-- the last n bytes of a pattern
abbrev pub last : ℕ → List ℕ → List ℕ
last n p = drop (length p - n) p

-- each end of the pattern, by its length, is marked if few bytes of the text are left by a match of it
abbrev pub IsRow : ℕ → List ℕ → List ℕ → List ℕ → Type 0
IsRow limit pattern text marks = (n : ℕ) → n ≤ length pattern → (marked marks n ≡ true) ↔ FewLeft limit (last n pattern) text

-- whether a pattern begins with a star
abbrev pub begins_with_star : List ℕ → Bool
begins_with_star [] = false
begins_with_star (x ∷ p) = x == 42

-- the mark of the rest of a pattern, if there is a rest
abbrev pub marked_left : List ℕ → Option (List ℕ) → Bool
marked_left marks None = false
marked_left marks (Some q) = marked marks (length q)

-- the mark of a pattern for a text, by that of the pattern without its first byte, and by the marks for the text without
-- its first byte
abbrev pub cell : List ℕ → List ℕ → List ℕ → Bool → Bool
cell p [] later here = begins_with_star p && here
cell p (c ∷ u) later here = if begins_with_star p then here || marked later (length p) else marked_left later (after_item p c)
