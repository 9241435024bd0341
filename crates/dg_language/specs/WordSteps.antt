-- The steps in which words are made, one after another.
use Rattle.std.specs.Prelude.{◌≡◌, Bool, true, false, List, [], ◌∷◌, ◌++◌}
use Rattle.dg_words.specs.Piece.{Piece}
use Rattle.dg_words.specs.declared.word.Word.{Word}
use Rattle.dg_language.specs.declared.substitution.Substitution.{Substitution}
use Rattle.dg_language.specs.declared.substitution.Substitution.TheVariants.{Literal, Variable, IndexBegins, IndexEnds, Script, WordEnds, ListEnds}
use Rattle.dg_language.specs.Words.{Parts, Nothing, Text, Variable as VariablePart, Element, Command, in_a_row, nested_in}

-- the steps in which parts are made: those of an index stand between its beginning and its end
unfoldable pub part_steps : Parts → List Substitution
part_steps Nothing = []
part_steps (Text t ps) = Literal t ∷ part_steps ps
part_steps (VariablePart n ps) = Variable n ∷ part_steps ps
part_steps (Element n index ps) = IndexBegins n ∷ (part_steps index ++ IndexEnds ∷ part_steps ps)
part_steps (Command t ps) = Script t ∷ part_steps ps

abbrev pub ending_of : Bool → Substitution
ending_of true = ListEnds
ending_of false = WordEnds

-- the steps in which words are made
unfoldable pub substitutions : List Word → List Substitution
substitutions [] = []
substitutions (w ∷ ws) = part_steps (nested_in w.parts) ++ ending_of w.expand ∷ substitutions ws

-- the steps in which an operand is made: it is one word
abbrev pub operand_steps : List Piece → List Substitution
operand_steps pieces = part_steps (nested_in pieces) ++ WordEnds ∷ []

-- the steps of nested parts were added, which stand in a row as these pieces
abbrev pub AddsSteps : List Substitution → List Substitution → List Piece → Type 0
AddsSteps old new pieces = (ps : Parts) × ((in_a_row ps ≡ pieces) × (new ≡ old ++ part_steps ps))
