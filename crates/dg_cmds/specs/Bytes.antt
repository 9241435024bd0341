-- Parts of a text, chosen by their bytes.
use Rattle.std.specs.Prelude.{◌≡◌, ℕ, ◌<◌, Bool, false, List, [], ◌∷◌, ◌==◌, reverse, slice_index_or, if◌then◌else◌}
use Rattle.std.specs.List.{list_any}

-- whether a byte is one of these
abbrev pub member : List ℕ → ℕ → Bool
member bytes b = list_any (λ c. c == b) bytes

-- space, tab, newline, vertical tab, form feed and carriage return
abbrev pub blanks : List ℕ
blanks = 32 ∷ 9 ∷ 10 ∷ 11 ∷ 12 ∷ 13 ∷ []

-- a text without the bytes at its front that pass a test
abbrev pub trimmed_left : (ℕ → Bool) → List ℕ → List ℕ
trimmed_left p [] = []
trimmed_left p (b ∷ bs) = if p b then trimmed_left p bs else b ∷ bs

-- a text without the bytes at its end that pass a test
abbrev pub trimmed_right : (ℕ → Bool) → List ℕ → List ℕ
trimmed_right p t = reverse (trimmed_left p (reverse t))

abbrev pub trimmed : (ℕ → Bool) → List ℕ → List ℕ
trimmed p t = trimmed_right p (trimmed_left p t)

-- The marks of 256 bytes say which are among these.
abbrev pub IsSetOf : List Bool → List ℕ → Type 0
IsSetOf marks bytes = (b : ℕ) → b < 256 → slice_index_or marks b false ≡ member bytes b
