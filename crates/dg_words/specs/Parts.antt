-- The pieces of parts.
use Rattle.std.specs.Prelude.{List, [], ◌∷◌, ◌++◌}
use Rattle.std.specs.List.{flat_map}
use Rattle.dg_words.specs.Piece.{Piece, Text, Variable, Element, End, Command}
use Rattle.dg_words.specs.declared.word.Part.{Part}
use Rattle.dg_words.specs.declared.word.Part.TheVariants as part

-- the pieces of one part
abbrev pub pieces_of_part : Part → List Piece
pieces_of_part (part.Text t) = Text t ∷ []
pieces_of_part (part.Variable n) = Variable n ∷ []
pieces_of_part (part.Element n index) = Element n ∷ index ++ End ∷ []
pieces_of_part (part.Command s) = Command s ∷ []

-- the pieces of parts, in order
abbrev pub pieces_of : List Part → List Piece
pieces_of parts = flat_map pieces_of_part parts
