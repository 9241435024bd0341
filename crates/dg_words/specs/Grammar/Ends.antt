-- The items that are open after a text.
use Rattle.std.specs.Prelude.{◌≡◌, ℕ, List, [], ◌∷◌, ◌++◌, Bool, true, if◌then◌else◌, ◌==◌}
use Rattle.std.specs.List.{filter}
use Rattle.dg_lists.specs.declared.fault.WordFault.{WordFault}
use Rattle.dg_lists.specs.declared.fault.WordFault.TheVariants.{MissingBrace, MissingBracket, MissingQuote, MissingParen}

-- a byte that may end a brace, a quote, a bracket or an index
abbrev pub is_end : ℕ → Bool
is_end b = if b == 125 then true else if b == 34 then true else if b == 93 then true else b == 41

-- these bytes stand among the others, in this order
pub data InOrder : List ℕ → List ℕ → Type 0 where
  none : {t : List ℕ} → InOrder [] t
  past : {ks t : List ℕ} (b : ℕ) → InOrder ks t → InOrder ks (b ∷ t)
  here : {ks t : List ℕ} (k : ℕ) → InOrder ks t → InOrder (k ∷ ks) (k ∷ t)

-- The items that are open after a text, by the bytes that end them, the inmost first: bytes with no other ends among
-- them make such a text of it, and all that do have these ends, in this order.
pub record Open (Is : List ℕ → Type 0) (text ends : List ℕ) : Type 0 where
  pub closing : List ℕ
  pub is_such : Is (text ++ closing)
  pub just : filter is_end closing ≡ ends
  pub needed : (more : List ℕ) → Is (text ++ more) → InOrder ends more

-- the fault where this end is missing
abbrev pub missing : ℕ → WordFault
missing k = if k == 125 then MissingBrace else if k == 34 then MissingQuote else if k == 93 then MissingBracket else MissingParen
