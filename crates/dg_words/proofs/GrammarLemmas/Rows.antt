-- Texts that the grammar spells.
use Rattle.std.specs.Prelude.{[], ◌∷◌, refl, false}
use Rattle.dg_words.specs.Piece.{Element, End, Text, Variable}
use Rattle.dg_lists.specs.Classes.{class_of}
use Rattle.dg_lists.specs.Grammar.Lists as lists
use Rattle.dg_words.specs.Grammar.Words as words
use Rattle.dg_words.specs.Grammar.Operands as operands

-- `a {b}`
pub two_elements : lists.ListOf (97 ∷ 32 ∷ 123 ∷ 98 ∷ 125 ∷ []) ((97 ∷ []) ∷ (98 ∷ []) ∷ [])
unfolding class_of
two_elements =
    lists.ListOf.element {t = 97 ∷ []} {after = 32 ∷ 123 ∷ 98 ∷ 125 ∷ []} [] refl (lists.Element.bare refl (lists.Inside.byte 97 refl lists.Inside.nothing)) refl
    (lists.ListOf.element {t = 123 ∷ 98 ∷ 125 ∷ []} {after = []} (32 ∷ []) refl (lists.Element.braced {t = 98 ∷ []} (lists.Braced.byte 98 refl lists.Braced.nothing)) tt (lists.ListOf.no_elements [] refl))

-- `a $b`
pub two_words : words.WordsOf (97 ∷ 32 ∷ 36 ∷ 98 ∷ []) (record { expand = false; parts = Text (97 ∷ []) ∷ [] } ∷ record { expand = false; parts = Variable (98 ∷ []) ∷ [] } ∷ [])
unfolding class_of
two_words =
    words.Words.word {g = []} {u = 97 ∷ []} {t = 32 ∷ 36 ∷ 98 ∷ []} words.Gap.nothing (words.OneWord.alone (words.Plain.bare refl (words.Parts.byte 97 refl words.Parts.nothing))) (words.Parted.at_byte 32 refl)
    (words.Words.word {g = 32 ∷ []} {u = 36 ∷ 98 ∷ []} {t = []} (words.Gap.blank 32 refl words.Gap.nothing)
    (words.OneWord.alone (words.Plain.bare refl (words.Parts.variable {t = []} (98 ∷ []) (words.Named.local refl) (λ e. absurd cc) refl words.Parts.nothing))) words.Parted.at_end (words.Words.no_words words.Gap.nothing))

-- `$a(b)`, before `+1`
pub one_operand : operands.Begun (36 ∷ 97 ∷ 40 ∷ 98 ∷ 41 ∷ 43 ∷ 49 ∷ []) (Element (97 ∷ []) ∷ Text (98 ∷ []) ∷ End ∷ []) 5
unfolding class_of
one_operand =
    operands.Begun.operand {t = 36 ∷ 97 ∷ 40 ∷ 98 ∷ 41 ∷ []} {after = 43 ∷ 49 ∷ []} (operands.Operand.element {i = 98 ∷ []} (97 ∷ []) (words.Named.local refl) (words.Parts.byte 98 refl words.Parts.nothing))
