-- Globs, as in `string match` of Tcl(n): the texts that a pattern matches, and its spans in a text.
use Rattle.std.specs.Prelude.{ℕ, Bool, false, IsTrue, Some, List, [], ◌∷◌, ◌++◌, ◌≡◌, ◌≤◌, ◌==◌, ◌-◌, take, if◌then◌else◌, length, slice_range}
use Rattle.dg_glob.specs.Items.{after_item}

-- A pattern matches a text: the empty pattern the empty text; a `*` any front of the text, where the rest of the pattern
-- matches the rest of it; any other item the first byte, where what is left of the pattern then matches the other bytes.
pub data Matches : List ℕ → List ℕ → Type 0 where
  nothing : Matches [] []
  star : (p x y : List ℕ) → Matches p y → Matches (42 ∷ p) (x ++ y)
  item : (p q : List ℕ) (c : ℕ) (t : List ℕ) → after_item p c ≡ Some q → Matches q t → Matches p (c ∷ t)

-- whether a pattern is bound to the start of the text: it begins with `^`
abbrev pub binds_start : List ℕ → Bool
binds_start [] = false
binds_start (x ∷ p) = x == 94

-- whether a pattern is bound to the end of the text: it ends with a `$` that no backslash stands for
abbrev pub binds_end : List ℕ → Bool
binds_end [] = false
binds_end (x ∷ []) = x == 36
binds_end (x ∷ y ∷ p) = if x == 92 then binds_end p else binds_end (y ∷ p)

abbrev pub without_start : List ℕ → List ℕ
without_start [] = []
without_start (x ∷ p) = if x == 94 then p else x ∷ p

-- the pattern without the `^` and the `$` that bind it
abbrev pub body : List ℕ → List ℕ
body p = let q = without_start p in if binds_end p then take (length q - 1) q else q

-- The bytes from start to end are a span of the pattern in the text.
pub record IsSpan (pattern text : List ℕ) (start end : ℕ) : Type 0 where
  pub ordered : start ≤ end
  pub within : end ≤ length text
  pub at_start : IsTrue (binds_start pattern) → start ≡ 0
  pub at_end : IsTrue (binds_end pattern) → end ≡ length text
  pub matched : Matches (body pattern) (slice_range text start end)

-- Of the spans of the pattern in the text, the one with the least start, and with the greatest end of those.
pub record IsFirstSpan (pattern text : List ℕ) (start end : ℕ) : Type 0 where
  pub span : IsSpan pattern text start end
  pub first : (s e : ℕ) → IsSpan pattern text s e → start ≤ s
  pub longest : (e : ℕ) → IsSpan pattern text start e → e ≤ end
