-- The text before a fault can go on to a list; the text up to and with it cannot.
use Rattle.std.specs.Prelude.{◌≡◌, ℕ, List, ◌∷◌, ◌++◌, length, ◌⊎◌, Err}
use Rattle.dg_lists.specs.declared.fault.WordFault.{WordFault}
use Rattle.dg_lists.specs.Elements.{elements_of}
use Rattle.dg_lists.specs.Grammar.Lists.{ListOf}

-- Behind the bytes of a text before this place others can stand, so that the whole is such a text.
pub record GoesOn (Is : List ℕ → Type 0) (text : List ℕ) (place : ℕ) : Type 0 where
  pub front : List ℕ
  pub rest : List ℕ
  pub split : text ≡ front ++ rest
  pub place_is : place ≡ length front
  pub closing : List ℕ
  pub is_such : Is (front ++ closing)

-- This place is the end of such a text, or that of a byte: then each text that begins with the bytes up to that one is
-- such a text.
pub record StopsAt (Is : List ℕ → Type 0) (text : List ℕ) (place : ℕ) : Type 0 where
  pub front : List ℕ
  pub place_is : place ≡ length front
  pub why : ((text ≡ front) × Is text)
      ⊎ ((b : ℕ) × (rest : List ℕ) × (text ≡ front ++ b ∷ rest) × ((more : List ℕ) → Is (front ++ b ∷ more)))

-- a text that is no such text
abbrev pub IsNot : (List ℕ → Type 0) → List ℕ → Type 0
IsNot Is text = Is text → ⊥

-- the text is a list
abbrev pub IsList : List ℕ → Type 0
IsList text = (elements : List (List ℕ)) × ListOf text elements

-- this fault is told of the text, and it is no list
abbrev pub IsNoList : WordFault → List ℕ → Type 0
IsNoList fault text = (elements_of text ≡ Err fault) × ((elements : List (List ℕ)) → ListOf text elements → ⊥)
