-- The words that are read in a text have parts that are nested in one another.
use Rattle.std.proofs.Common.{◌≡◌, ℕ, true, false, List, [], ◌∷◌, ◌++◌, map, refl, ap, sym, ◌∙◌}
use Rattle.std.specs.Prelude.{Ok}
use Rattle.dg_words.specs.Piece.{Piece, End}
use Rattle.dg_words.specs.Piece as piece
use Rattle.dg_words.specs.Reading.{command_at, operand_at, words_of}
use Rattle.dg_words.specs.declared.kinds.Level.{Level}
use Rattle.dg_lists.specs.declared.kinds.Context.{Context}
use Rattle.dg_words.specs.declared.word.Word.{Word}
use Rattle.dg_words.specs.Grammar.Words.{Begun, OneCommand, OneWord, Plain, Words, with_text}
use Rattle.dg_words.specs.Grammar.Words as spelled
use Rattle.dg_words.specs.Grammar.Operands as operands
use Rattle.dg_words.proofs.GrammarLemmas.CommandSpelled.{read_command_is_spelled, read_operand_is_spelled, read_words_are_spelled}
use Rattle.dg_language.specs.Words.{Parts, Nothing, Text, Variable, Element, Command, in_a_row, NestedWord, word_of}
use Rattle.dg_laws.specs.WordValues.{AreNested}

-- these pieces are nested parts in a row
abbrev Nest : List Piece → Type 0
Nest ps = (nested : Parts) × (in_a_row nested ≡ ps)

-- a text before parts: texts side by side are one
abbrev behind_text : List ℕ → Parts → Parts
behind_text [] ps = ps
behind_text (b ∷ bs) (Text t ps) = Text ((b ∷ bs) ++ t) ps
behind_text (b ∷ bs) Nothing = Text (b ∷ bs) Nothing
behind_text (b ∷ bs) (Variable n ps) = Text (b ∷ bs) (Variable n ps)
behind_text (b ∷ bs) (Element n index ps) = Text (b ∷ bs) (Element n index ps)
behind_text (b ∷ bs) (Command c ps) = Text (b ∷ bs) (Command c ps)

text-in-a-row : (t : List ℕ) (ps : Parts) → in_a_row (behind_text t ps) ≡ with_text t (in_a_row ps)
unfolding in_a_row
text-in-a-row [] ps = refl
text-in-a-row (b ∷ bs) (Text t ps) = refl
text-in-a-row (b ∷ bs) Nothing = refl
text-in-a-row (b ∷ bs) (Variable n ps) = refl
text-in-a-row (b ∷ bs) (Element n index ps) = refl
text-in-a-row (b ∷ bs) (Command c ps) = refl

text-nest : (t : List ℕ) {ps : List Piece} → Nest ps → Nest (with_text t ps)
text-nest t n = (behind_text t n.0, text-in-a-row t n.0 ∙ ap (with_text t) n.1)

nothing-nest : Nest []
unfolding in_a_row
nothing-nest = (Nothing, refl)

variable-nest : (name : List ℕ) {ps : List Piece} → Nest ps → Nest (piece.Variable name ∷ ps)
unfolding in_a_row
variable-nest name n = (Variable name n.0, ap (λ r. piece.Variable name ∷ r) n.1)

command-nest : (c : List ℕ) {ps : List Piece} → Nest ps → Nest (piece.Command c ∷ ps)
unfolding in_a_row
command-nest c n = (Command c n.0, ap (λ r. piece.Command c ∷ r) n.1)

element-nest : (name : List ℕ) {is ps : List Piece} → Nest is → Nest ps → Nest (piece.Element name ∷ is ++ End ∷ ps)
unfolding in_a_row
element-nest name {is} i n =
    (Element name i.0 n.0, ap (λ r. piece.Element name ∷ (r ++ End ∷ in_a_row n.0)) i.1 ∙ ap (λ r. piece.Element name ∷ (is ++ End ∷ r)) n.1)

parts-nest : {l : Level} {n : ℕ} {s : Context} {after t : List ℕ} {ps : List Piece} → spelled.Parts l n s after t ps → Nest ps
parts-nest spelled.nothing = nothing-nest
parts-nest (spelled.byte b plain more) = text-nest (b ∷ []) (parts-nest more)
parts-nest (spelled.escape e w escaped more) = text-nest w (parts-nest more)
parts-nest (spelled.joined_line g bare spaces more) = text-nest (32 ∷ []) (parts-nest more)
parts-nest (spelled.last_backslash last) = text-nest (92 ∷ []) nothing-nest
parts-nest (spelled.dollar other more) = text-nest (36 ∷ []) (parts-nest more)
parts-nest (spelled.variable name named some ends more) = variable-nest name (parts-nest more)
parts-nest (spelled.braced_variable name closed more) = variable-nest name (parts-nest more)
parts-nest (spelled.element name named index more) = element-nest name (parts-nest index) (parts-nest more)
parts-nest (spelled.substitution {c = c} script more) = command-nest c (parts-nest more)

plain-nest : {l : Level} {n : ℕ} {after t : List ℕ} {ps : List Piece} → Plain l n after t ps → Nest ps
plain-nest (spelled.bare begins parts) = parts-nest parts
plain-nest (spelled.quoted parts) = parts-nest parts
plain-nest (spelled.braced {v = v} braced) = text-nest v nothing-nest

word-nest : {l : Level} {n : ℕ} {after t : List ℕ} {w : Word} → OneWord l n after t w → (nested : NestedWord) × (word_of nested ≡ w)
word-nest (spelled.alone plain) =
    let n = plain-nest plain in
    (record { expand = false; parts = n.0 }, ap (λ ps. record { expand = false; parts = ps }) n.1)
word-nest (spelled.expanded plain) =
    let n = plain-nest plain in
    (record { expand = true; parts = n.0 }, ap (λ ps. record { expand = true; parts = ps }) n.1)

one-more : {w : Word} {ws : List Word} → ((nested : NestedWord) × (word_of nested ≡ w)) → AreNested ws → AreNested (w ∷ ws)
one-more {w} one more = (one.0 ∷ more.0, ap (λ x. x ∷ map word_of more.0) one.1 ∙ ap (λ xs. w ∷ xs) more.1)

words-nest : {l : Level} {n : ℕ} {after t : List ℕ} {ws : List Word} → Words l n after t ws → AreNested ws
words-nest (spelled.no_words gap) = ([], refl)
words-nest (spelled.word gap one parted more) = one-more (word-nest one) (words-nest more)

command-words : {l : Level} {n : ℕ} {after t : List ℕ} {ws : List Word} → OneCommand l n after t ws → AreNested ws
command-words (spelled.no_command skipped) = ([], refl)
command-words (spelled.command skipped hash one parted more) = one-more (word-nest one) (words-nest more)

begun-words : {t : List ℕ} {ws : List Word} {n : ℕ} → Begun t ws n → AreNested ws
begun-words (spelled.whole one) = command-words one
begun-words (spelled.ended b ends one) = command-words one

pub read-command-nested : (text : List ℕ) (at next : ℕ) (ws : List Word) → command_at text at ≡ Ok (ws, next) → AreNested ws
read-command-nested text at next ws h = begun-words (read_command_is_spelled text at next ws h).2

pub read-words-nested : (text : List ℕ) (ws : List Word) → words_of text ≡ Ok ws → AreNested ws
read-words-nested text ws h = words-nest (read_words_are_spelled text ws h)

-- operands
operand-nest : {after t : List ℕ} {ps : List Piece} → operands.Operand after t ps → Nest ps
operand-nest (operands.quoted parts) = parts-nest parts
operand-nest (operands.braced {v = v} braced) = text-nest v nothing-nest
operand-nest (operands.variable name named some ends) = variable-nest name nothing-nest
operand-nest (operands.braced_variable name closed) = variable-nest name nothing-nest
operand-nest (operands.element name named index) = element-nest name (parts-nest index) nothing-nest
operand-nest (operands.substitution {c = c} script) = command-nest c nothing-nest
operand-nest (operands.dollar other colon) = text-nest (36 ∷ []) nothing-nest
operand-nest (operands.dollar_colon colon) = text-nest (36 ∷ 58 ∷ []) nothing-nest
operand-nest (operands.nothing none) = nothing-nest

begun-operand : {t : List ℕ} {ps : List Piece} {n : ℕ} → operands.Begun t ps n → Nest ps
begun-operand (operands.operand one) = operand-nest one

pub read-operand-nested : (text : List ℕ) (at next : ℕ) (ws : List Word) → operand_at text at ≡ Ok (ws, next) → AreNested ws
read-operand-nested text at next ws h =
    let x = read_operand_is_spelled text at next ws h in
    let n = begun-operand x.4 in
    (record { expand = false; parts = n.0 } ∷ [], ap (λ ps. record { expand = false; parts = ps } ∷ []) n.1 ∙ sym x.2)
