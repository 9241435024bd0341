-- The canonical text of a list with more elements.
use Rattle.std.specs.Prelude.{◌≡◌, ℕ, ◌+◌, List, [], ◌∷◌, ◌++◌, length, refl, true, false, ◌==◌}
use Rattle.std.proofs.Common.{ap, ◌∙◌, sym, length-append, append_assoc}
use Rattle.std.proofs.lemmas.Bool.{eqb-true}
use Rattle.std.proofs.lemmas.List.{nil_from_length}
use Rattle.dg_bytes.specs.Canonical.{element_text, further_text, text_of_list}
use Rattle.dg_bytes.specs.Added.{added}

further_grows : (xs more : List (List ℕ)) → further_text (xs ++ more) ≡ further_text xs ++ further_text more
further_grows [] more = refl
further_grows (x ∷ xs) more =
    ap (λ (t : List ℕ). 32 ∷ element_text false x ++ t) (further_grows xs more) ∙ ap (λ (t : List ℕ). 32 ∷ t) (sym (append_assoc (element_text false x) (further_text xs) (further_text more)))

pub text_grows : (xs more : List (List ℕ)) → text_of_list (xs ++ more) ≡ text_of_list xs ++ added xs more
unfolding text_of_list
text_grows [] more = refl
text_grows (x ∷ xs) more =
    ap (λ (t : List ℕ). element_text true x ++ t) (further_grows xs more) ∙ sym (append_assoc (element_text true x) (further_text xs) (further_text more))

pub length_grows : (xs more : List (List ℕ)) → length (text_of_list (xs ++ more)) ≡ length (text_of_list xs) + length (added xs more)
length_grows xs more = ap length (text_grows xs more) ∙ length-append (text_of_list xs) (added xs more)

pub empty_if : {A : Type 0} (xs : List A) → (length xs == 0) ≡ true → xs ≡ []
empty_if xs h = nil_from_length xs (eqb-true (length xs) 0 h)
