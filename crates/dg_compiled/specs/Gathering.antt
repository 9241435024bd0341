-- Words that are made step by step, as the machine makes them.
use Rattle.std.specs.Prelude.{ℕ, List, [], ◌∷◌, ◌++◌}
use Rattle.dg_language.specs.declared.substitution.Substitution.{Substitution}
use Rattle.dg_language.specs.declared.substitution.Substitution.TheVariants.{Literal, Variable, IndexBegins, IndexEnds, Script, WordEnds, ListEnds}
use Rattle.dg_language.specs.Play.{Play}
use Rattle.dg_language.specs.State.{State}
use Rattle.dg_language.specs.Evaluation.{Ending, Then, Nested, if_done, list_in}
use Rattle.dg_language.specs.Variables.{read_variable}
use Rattle.dg_language.specs.Words.{Act, element, longer, with_elements}

-- Words are made from left to right, and then this is done with them. `made` are the words that are made, `text` is what is
-- made of the next one or of an index in it, and `outer` has what was made before each index, with its element's name.
unfoldable pub gather : Nested → Act → List (List ℕ) → List (List ℕ × List ℕ) → List ℕ → List Substitution → State → Then → Play Ending
gather nested act made outer text [] s k = act made s k
gather nested act made outer text (Literal t ∷ ps) s k = longer text t s (λ u. gather nested act made outer u ps s k)
gather nested act made outer text (Variable n ∷ ps) s k =
    read_variable n s (if_done (λ v s'. longer text v s' (λ u. gather nested act made outer u ps s' k)) k)
gather nested act made outer text (IndexBegins n ∷ ps) s k = gather nested act made ((n, text) ∷ outer) [] ps s k
gather nested act made [] text (IndexEnds ∷ ps) s k = gather nested act made [] text ps s k
gather nested act made (o ∷ outer) text (IndexEnds ∷ ps) s k =
    read_variable (element o.0 text) s (if_done (λ v s'. longer o.1 v s' (λ u. gather nested act made outer u ps s' k)) k)
gather nested act made outer text (Script t ∷ ps) s k =
    nested t s (if_done (λ v s'. longer text v s' (λ u. gather nested act made outer u ps s' k)) k)
gather nested act made outer text (WordEnds ∷ ps) s k = gather nested act (made ++ text ∷ []) outer [] ps s k
gather nested act made outer text (ListEnds ∷ ps) s k =
    with_elements (list_in text) s k (λ es. gather nested act (made ++ es) outer [] ps s k)
