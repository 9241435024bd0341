-- How a list is spelled.
use Rattle.std.specs.Prelude.{◌≡◌, ℕ, List, [], ◌∷◌, ◌++◌, Bool, true, false}
use Rattle.dg_lists.specs.declared.kinds.Class.{Class}
use Rattle.dg_lists.specs.declared.kinds.Class.TheVariants.{Blank, Newline, Quote, Open, Close, Backslash}
use Rattle.dg_lists.specs.Classes.{class_of}
use Rattle.dg_lists.specs.Grammar.Escapes.{each, Escaped, Spaces}

-- the bytes that separate elements
abbrev pub parts : Class → Bool
parts Blank = true
parts Newline = true
parts c = false

abbrev pub is_blank : ℕ → Bool
is_blank b = parts (class_of b)

-- the bytes that stand for themselves in a bare element, between quotes, and between braces
abbrev pub plain_bare : Class → Bool
plain_bare Blank = false
plain_bare Newline = false
plain_bare Backslash = false
plain_bare c = true

abbrev pub plain_quoted : Class → Bool
plain_quoted Quote = false
plain_quoted Backslash = false
plain_quoted c = true

abbrev pub plain_braced : Class → Bool
plain_braced Open = false
plain_braced Close = false
plain_braced Backslash = false
plain_braced c = true

-- the bytes that a bare element can begin with
abbrev pub begins : Class → Bool
begins Quote = false
begins Open = false
begins c = true

abbrev pub BeginsElement : List ℕ → Type 0
BeginsElement [] = ⊥
BeginsElement (b ∷ bs) = begins (class_of b) ≡ true

-- the text after an element: a blank or a newline first, or nothing
abbrev pub Parted : List ℕ → Type 0
Parted [] = Unit {0}
Parted (b ∷ bs) = is_blank b ≡ true

-- The inside of a bare or a quoted element before the text after, and what it stands for: plain bytes and escapes;
-- a joined line is a space, and a backslash that ends the list is itself.
pub data Inside (plain : Class → Bool) (after : List ℕ) : List ℕ → List ℕ → Type 0 where
  nothing : Inside plain after [] []
  byte : {t v : List ℕ} (b : ℕ) → plain (class_of b) ≡ true → Inside plain after t v → Inside plain after (b ∷ t) (b ∷ v)
  escape : {t v : List ℕ} (e w : List ℕ) → Escaped (t ++ after) e w → Inside plain after t v → Inside plain after (92 ∷ e ++ t) (w ++ v)
  joined_line : {t v : List ℕ} (g : List ℕ) → Spaces g (t ++ after) → Inside plain after t v → Inside plain after (92 ∷ 10 ∷ g ++ t) (32 ∷ v)
  last_backslash : after ≡ [] → Inside plain after (92 ∷ []) (92 ∷ [])

-- The inside of a braced element: each brace has its partner, but for those behind a backslash.
pub data Braced : List ℕ → Type 0 where
  nothing : Braced []
  byte : {t : List ℕ} (b : ℕ) → plain_braced (class_of b) ≡ true → Braced t → Braced (b ∷ t)
  pair : {t : List ℕ} (b : ℕ) → Braced t → Braced (92 ∷ b ∷ t)
  braces : {t u : List ℕ} → Braced t → Braced u → Braced (123 ∷ t ++ 125 ∷ u)

-- An element before the text after, and its value.
pub data Element (after : List ℕ) : List ℕ → List ℕ → Type 0 where
  bare : {t v : List ℕ} → BeginsElement t → Inside plain_bare after t v → Element after t v
  quoted : {t v : List ℕ} → Inside plain_quoted (34 ∷ after) t v → Element after (34 ∷ t ++ 34 ∷ []) v
  braced : {t : List ℕ} → Braced t → Element after (123 ∷ t ++ 125 ∷ []) t

-- A list: elements, parted by blanks and newlines.
pub data ListOf : List ℕ → List (List ℕ) → Type 0 where
  no_elements : (g : List ℕ) → each is_blank g ≡ true → ListOf g []
  element : {t v after : List ℕ} {vs : List (List ℕ)} (g : List ℕ) → each is_blank g ≡ true → Element after t v → Parted after → ListOf after vs → ListOf (g ++ t ++ after) (v ∷ vs)
