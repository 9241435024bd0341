-- Pieces in a row are of one nested form.
use Rattle.std.proofs.Common.{◌≡◌, List, [], ◌∷◌, ◌++◌, refl, ap, sym, ◌∙◌, append_assoc}
use Rattle.std.proofs.lemmas.List.{append-nil}
use Rattle.dg_words.specs.Piece.{Piece, End}
use Rattle.dg_words.specs.Piece as piece
use Rattle.dg_language.specs.declared.substitution.Substitution.TheVariants.{IndexEnds}
use Rattle.dg_language.specs.declared.substitution.Substitution.TheVariants as named
use Rattle.dg_language.specs.Words.{Parts, Nothing, Text, Variable, Element, Command, all_put, in_a_row, inmost, nested_in, put}
use Rattle.dg_language.specs.WordSteps.{part_steps}

-- parts, and others behind them
abbrev pub then_parts : Parts → Parts → Parts
then_parts Nothing qs = qs
then_parts (Text t ps) qs = Text t (then_parts ps qs)
then_parts (Variable n ps) qs = Variable n (then_parts ps qs)
then_parts (Element n index ps) qs = Element n index (then_parts ps qs)
then_parts (Command t ps) qs = Command t (then_parts ps qs)

then-nothing : (ps : Parts) → then_parts ps Nothing ≡ ps
then-nothing Nothing = refl
then-nothing (Text t ps) = ap (Text t) (then-nothing ps)
then-nothing (Variable n ps) = ap (Variable n) (then-nothing ps)
then-nothing (Element n index ps) = ap (Element n index) (then-nothing ps)
then-nothing (Command t ps) = ap (Command t) (then-nothing ps)

-- a row is put before what lies to its right
row-put : (ps : Parts) (right : List Piece) (qs : Parts) (outer : List Parts) → all_put right ≡ qs ∷ outer → all_put (in_a_row ps ++ right) ≡ then_parts ps qs ∷ outer
unfolding in_a_row
row-put Nothing right qs outer h = h
row-put (Text t ps) right qs outer h = ap (put (piece.Text t)) (row-put ps right qs outer h)
row-put (Variable n ps) right qs outer h = ap (put (piece.Variable n)) (row-put ps right qs outer h)
row-put (Command t ps) right qs outer h = ap (put (piece.Command t)) (row-put ps right qs outer h)
row-put (Element n index ps) right qs outer h =
    let inner = row-put index (End ∷ (in_a_row ps ++ right)) Nothing (then_parts ps qs ∷ outer) (ap (put piece.End) (row-put ps right qs outer h)) in
    ap (λ l. put (piece.Element n) (all_put l)) (append_assoc (in_a_row index) (End ∷ in_a_row ps) right)
    ∙ ap (put (piece.Element n)) inner
    ∙ ap (λ x. Element n x (then_parts ps qs) ∷ outer) (then-nothing index)

pub one-form : (ps : Parts) → nested_in (in_a_row ps) ≡ ps
unfolding nested_in
one-form ps =
    ap (λ l. inmost (all_put l)) (sym (append-nil (in_a_row ps)))
    ∙ ap inmost (row-put ps [] Nothing [] refl)
    ∙ then-nothing ps

-- the row and the steps of parts, and of others behind them
pub then-row : (ps qs : Parts) → in_a_row (then_parts ps qs) ≡ in_a_row ps ++ in_a_row qs
unfolding in_a_row
then-row Nothing qs = refl
then-row (Text t ps) qs = ap (λ l. piece.Text t ∷ l) (then-row ps qs)
then-row (Variable n ps) qs = ap (λ l. piece.Variable n ∷ l) (then-row ps qs)
then-row (Command t ps) qs = ap (λ l. piece.Command t ∷ l) (then-row ps qs)
then-row (Element n index ps) qs =
    ap (λ l. piece.Element n ∷ (in_a_row index ++ End ∷ l)) (then-row ps qs)
    ∙ ap (λ l. piece.Element n ∷ l) (sym (append_assoc (in_a_row index) (End ∷ in_a_row ps) (in_a_row qs)))

pub then-steps : (ps qs : Parts) → part_steps (then_parts ps qs) ≡ part_steps ps ++ part_steps qs
unfolding part_steps
then-steps Nothing qs = refl
then-steps (Text t ps) qs = ap (λ l. named.Literal t ∷ l) (then-steps ps qs)
then-steps (Variable n ps) qs = ap (λ l. named.Variable n ∷ l) (then-steps ps qs)
then-steps (Command t ps) qs = ap (λ l. named.Script t ∷ l) (then-steps ps qs)
then-steps (Element n index ps) qs =
    ap (λ l. named.IndexBegins n ∷ (part_steps index ++ IndexEnds ∷ l)) (then-steps ps qs)
    ∙ ap (λ l. named.IndexBegins n ∷ l) (sym (append_assoc (part_steps index) (IndexEnds ∷ part_steps ps) (part_steps qs)))
