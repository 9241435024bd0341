-- The meaning of a reader's answer, by the grammar alone.
use Rattle.std.specs.Prelude.{ℕ, List}
use Rattle.dg_lists.specs.declared.fault.WordFault.{WordFault}
use Rattle.dg_lists.specs.Grammar.Continuing.{GoesOn, IsList, IsNot, StopsAt}
use Rattle.dg_lists.specs.Grammar.Saying.{Says}

-- The first fault of a text has a place: the text before it can go on to such a text, no text that begins with the
-- bytes up to the one there is such a text, and this is wrong there.
abbrev pub IsFirstFault : (List ℕ → Type 0) → (List ℕ → ℕ → Type 0) → List ℕ → Type 0
IsFirstFault Is Wrong text = (place : ℕ) × GoesOn Is text place × StopsAt (IsNot Is) text place × Wrong text place

-- of one that is to be a list
abbrev pub IsListFault : WordFault → List ℕ → Type 0
IsListFault fault text = IsFirstFault IsList (Says fault) text
