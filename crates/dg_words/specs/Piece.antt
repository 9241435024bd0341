-- The parts of a word, as a contract sees them: a flat list.
use Rattle.std.specs.Prelude.{ℕ, List}

-- A text, a variable of this name, an element of this name whose index is what comes before its End, or a command
-- substitution of this script.
pub data Piece : Type 0 where
  Text : List ℕ → Piece
  Variable : List ℕ → Piece
  Element : List ℕ → Piece
  End : Piece
  Command : List ℕ → Piece
