-- The index of an element has fewer pieces than the parts that it stands in.
use Rattle.std.specs.Prelude.{◌≤◌, max, List, [], ◌∷◌, length}
use Rattle.std.proofs.Common.{arith, length-append}
use denote.Param.Weighed.{most}
use Rattle.dg_words.specs.Piece.{End}
use Rattle.dg_words.specs.declared.word.Part.{Part}
use Rattle.dg_words.specs.declared.word.Part.TheVariants as part
use Rattle.dg_words.specs.declared.word.Parts.TheDeep.{deep-Part}
use Rattle.dg_words.specs.Parts.{pieces_of, pieces_of_part}

-- one part
pub deep_le-length-pieces_of_part : (p : Part) → deep-Part p ≤ length (pieces_of_part p)
deep_le-length-pieces_of_part (part.Text t) = omega arith
deep_le-length-pieces_of_part (part.Variable n) = omega arith
deep_le-length-pieces_of_part (part.Element n index) = omega (arith, length-append index (End ∷ []))
deep_le-length-pieces_of_part (part.Command s) = omega arith

-- parts
pub deep_le-length-pieces_of : (ps : List Part) → max (most deep-Part ps) 0 ≤ length (pieces_of ps)
deep_le-length-pieces_of [] = omega arith
deep_le-length-pieces_of (p ∷ ps) = omega (arith, deep_le-length-pieces_of_part p, deep_le-length-pieces_of ps, length-append (pieces_of_part p) (pieces_of ps))
