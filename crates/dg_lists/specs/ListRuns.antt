-- Runs of bytes that only add to an element of a list.
use Rattle.std.specs.Prelude.{◌≡◌, ◌≤◌, ℕ, ◌+◌, List, Bool, true, false, length, drop}
use Rattle.dg_lists.specs.declared.kinds.Class.{Class}
use Rattle.dg_lists.specs.declared.kinds.Class.TheVariants as class
use Rattle.dg_lists.specs.declared.kinds.Mode.{Mode}
use Rattle.dg_lists.specs.declared.kinds.Context.{Context}
use Rattle.dg_lists.specs.declared.kinds.Context.TheVariants.{Bare, Quoted}
use Rattle.dg_lists.specs.Elements.{Listing, list_read}

-- a byte of this class is text of the element that is open there
abbrev pub is_element_text : Context → Class → Bool
is_element_text Quoted class.Quote = false
is_element_text Quoted class.Backslash = false
is_element_text Quoted c = true
is_element_text Bare class.Blank = false
is_element_text Bare class.Newline = false
is_element_text Bare class.Backslash = false
is_element_text Bare c = true
is_element_text s c = false

-- Reading a list from a place on, with this open, goes on as reading it from a later place on with the other.
pub record Passes (text : List ℕ) (from : ℕ) (old : Listing) (to : ℕ) (new : Listing) : Type 0 where
  pub onward : from ≤ to
  pub within : to ≤ length text
  pub deep : new.depth + from ≤ old.depth + to
  pub reads : list_read (drop from text) old from ≡ list_read (drop to text) new to

-- the list of these parts
abbrev pub in_list : Mode → ℕ → List (List ℕ) → List ℕ → Listing
in_list m n xs t = record { mode = m; depth = n; elements = xs; text = t }
