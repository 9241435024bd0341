-- The steps of nested parts.
use Rattle.std.proofs.Common.{◌≡◌, ℕ, ◌+◌, ◌<◌, List, [], ◌∷◌, ◌++◌, length, get_or, take, refl, ap, sym, ◌∙◌, append_assoc}
use Rattle.std.proofs.lemmas.List.{append-nil, take_more}
use Rattle.std.proofs.lemmas.Grind.{flat_map-append}
use Rattle.dg_words.specs.Parts.{pieces_of, pieces_of_part}
use Rattle.dg_words.specs.Piece.{Piece}
use Rattle.dg_words.specs.Piece as piece
use Rattle.dg_words.specs.declared.word.Part.{Part}
use Rattle.dg_language.specs.declared.substitution.Substitution.{Substitution}
use Rattle.dg_language.specs.declared.substitution.Substitution.TheVariants.{Literal, Variable as Named, IndexBegins, IndexEnds, Script}
use Rattle.dg_language.specs.Words.{Nothing, Text, Variable, Element, Command, in_a_row, nested_in}
use Rattle.dg_language.specs.WordSteps.{AddsSteps, part_steps}
use Rattle.dg_language.proofs.NestedForms.{one-form, then_parts, then-row, then-steps}

-- steps that were added are those of the nested form
pub added-nested : (old new : List Substitution) (pieces : List Piece) → AddsSteps old new pieces → new ≡ old ++ part_steps (nested_in pieces)
added-nested old new pieces x = x.1.1 ∙ ap (λ p. old ++ part_steps p) (sym (one-form x.0) ∙ ap nested_in x.1.0)

-- the pieces of one part more
pieces-more : (ps : List Part) (i : ℕ) (p : Part) → i < length ps → p ≡ get_or ps i p → pieces_of (take i ps) ++ pieces_of_part p ≡ pieces_of (take (i + 1) ps)
pieces-more ps i p l e =
    sym
    (ap pieces_of (take_more ps i p l)
    ∙ flat_map-append pieces_of_part (take i ps) (get_or ps i p ∷ [])
    ∙ ap (λ t. pieces_of (take i ps) ++ t) (append-nil (pieces_of_part (get_or ps i p)) ∙ ap pieces_of_part (sym e)))

-- the steps of one part more
pub added-more : (old now new : List Substitution) (ps : List Part) (i : ℕ) (p : Part) → i < length ps → p ≡ get_or ps i p → AddsSteps old now (pieces_of (take i ps))
    → AddsSteps now new (pieces_of_part p) → AddsSteps old new (pieces_of (take (i + 1) ps))
added-more old now new ps i p l e x y = (
  then_parts x.0 y.0,
  (
    then-row x.0 y.0 ∙ ap (λ t. t ++ in_a_row y.0) x.1.0 ∙ ap (λ t. pieces_of (take i ps) ++ t) y.1.0 ∙ pieces-more ps i p l e,
    y.1.1 ∙ ap (λ t. t ++ part_steps y.0) x.1.1 ∙ append_assoc old (part_steps x.0) (part_steps y.0) ∙ ap (λ t. old ++ t) (sym (then-steps x.0 y.0)),
  ),
)

-- the steps of one part
pub added-none : (steps : List Substitution) → AddsSteps steps steps []
unfolding in_a_row part_steps
added-none steps = (Nothing, (refl, sym (append-nil steps)))

pub added-text : (old new : List Substitution) (v : List ℕ) → new ≡ old ++ Literal v ∷ [] → AddsSteps old new (piece.Text v ∷ [])
unfolding in_a_row part_steps
added-text old new v e = (Text v Nothing, (refl, e))

pub added-variable : (old new : List Substitution) (n : List ℕ) → new ≡ old ++ Named n ∷ [] → AddsSteps old new (piece.Variable n ∷ [])
unfolding in_a_row part_steps
added-variable old new n e = (Variable n Nothing, (refl, e))

pub added-script : (old new : List Substitution) (t : List ℕ) → new ≡ old ++ Script t ∷ [] → AddsSteps old new (piece.Command t ∷ [])
unfolding in_a_row part_steps
added-script old new t e = (Command t Nothing, (refl, e))

pub added-element : (old mid new : List Substitution) (n : List ℕ) (index : List Piece) → AddsSteps (old ++ IndexBegins n ∷ []) mid index → new ≡ mid ++ IndexEnds ∷ []
    → AddsSteps old new (piece.Element n ∷ index ++ piece.End ∷ [])
unfolding in_a_row part_steps
added-element old mid new n index x e = (
  Element n x.0 Nothing,
  (
    ap (λ l. piece.Element n ∷ (l ++ piece.End ∷ [])) x.1.0,
    e ∙ ap (λ t. t ++ IndexEnds ∷ []) x.1.1 ∙ append_assoc (old ++ IndexBegins n ∷ []) (part_steps x.0) (IndexEnds ∷ [])
        ∙ append_assoc old (IndexBegins n ∷ []) (part_steps x.0 ++ IndexEnds ∷ []),
  ),
)
