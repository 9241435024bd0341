-- The steps of a search for a match.
use Rattle.std.specs.Prelude.{ℕ, min, Bool, IsTrue, ⊤, Option, Some, None, MatchOption, List, [], ◌∷◌, ◌++◌, ◌≡◌, ◌≤◌, ◌<◌, ◌-◌, length, drop}
use Rattle.dg_glob.specs.Glob.{Matches}

-- The pattern matches the part of the text before this rest of it.
pub record Leaves (pattern text rest : List ℕ) : Type 0 where
  pub taken : List ℕ
  pub split : text ≡ taken ++ rest
  pub matched : Matches pattern taken

-- the pattern matches at no place of the text before the n-th
abbrev pub IsSkipped : List ℕ → List ℕ → ℕ → Type 0
IsSkipped pattern text n = (k : ℕ) → k < n → (rest : List ℕ) → Leaves pattern (drop k text) rest → ⊥

-- This rest of the text is what is left behind a front of it at no place of which the pattern matches.
pub record IsAhead (pattern text rest : List ℕ) : Type 0 where
  pub skipped : ℕ
  pub within : skipped ≤ length text
  pub left : rest ≡ drop skipped text
  pub nowhere : IsSkipped pattern text skipped

-- A pattern matches what stands in the text before this rest of it, and nothing is left where the whole text has to match if the flag is set
pub record Ends (whole : Bool) (pattern text rest : List ℕ) : Type 0 where
  pub leaves : Leaves pattern text rest
  pub all : IsTrue whole → rest ≡ []

-- a pattern that is at its end or at a `*`
abbrev pub IsAtStar : List ℕ → Type 0
IsAtStar [] = ⊤
IsAtStar (x ∷ p) = x ≡ 42

-- whatever text p matches, q matches it without its first n bytes
abbrev pub Passes : ℕ → List ℕ → List ℕ → Type 0
Passes n p q = (x rest : List ℕ) → Leaves p x rest → Leaves q (drop n x) rest

-- Items that each took one byte led from a pattern and a text to these parts of them. If they are steady, every match of the
-- pattern comes by here.
pub record IsRun (pattern text : List ℕ) (steady : Bool) (to_pattern to_text : List ℕ) : Type 0 where
  pub passed : ℕ
  pub left : to_text ≡ drop passed text
  pub shorter : length to_pattern ≤ length pattern
  pub forward : (rest : List ℕ) → Leaves pattern text rest → Leaves to_pattern to_text rest
  pub back : (rest : List ℕ) → Leaves to_pattern to_text rest → Leaves pattern text rest
  pub steadily : IsTrue steady → Passes passed pattern to_pattern

-- a match of these ends leaves n bytes, and none leaves fewer
pub record IsLongest (whole : Bool) (pattern text : List ℕ) (n : ℕ) : Type 0 where
  pub rest : List ℕ
  pub ends : Ends whole pattern text rest
  pub count : length rest ≡ n
  pub least : (r : List ℕ) → Ends whole pattern text r → n ≤ length r

-- how many bytes the longest match leaves, if there is a match
abbrev pub IsAnswer : Bool → List ℕ → List ℕ → Option ℕ → Type 0
IsAnswer whole pattern text answer = MatchOption answer ((r : List ℕ) → Ends whole pattern text r → ⊥) (IsLongest whole pattern text)

-- the fewer of two numbers of bytes that are left, where there is one
abbrev pub fewest : Option ℕ → Option ℕ → Option ℕ
fewest None b = b
fewest (Some n) None = Some n
fewest (Some n) (Some m) = Some (min n m)

-- The first place of a text at which a pattern matches, and where the longest match there ends.
pub record IsFirstReach (whole : Bool) (pattern text : List ℕ) (start end : ℕ) : Type 0 where
  pub within : start ≤ length text
  pub before_end : end ≤ length text
  pub longest : IsLongest whole pattern (drop start text) (length text - end)
  pub first : (s : ℕ) (r : List ℕ) → s < start → Ends whole pattern (drop s text) r → ⊥
