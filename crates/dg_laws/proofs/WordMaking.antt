-- The making of words.
use Rattle.std.proofs.Common.{ℕ, ◌+◌, Bool, true, false, List, [], ◌∷◌, ◌++◌, map, length}
use Rattle.std.specs.Prelude.{Result, Ok, Err}
use Rattle.dg_words.specs.declared.word.Word.{Word}
use Rattle.dg_language.specs.Play.{Play}
use Rattle.dg_language.specs.State.{State}
use Rattle.dg_language.specs.Evaluation.{Ending, Then, Nested, list_in}
use Rattle.dg_language.specs.Words.{Act, Parts, Nothing, Text, Variable, Element, Command, NestedWord, all_made, behind, element, joined, longer, nested_word, with_elements, words_in, words_made}
use Rattle.dg_laws.specs.Grafting.{Grafted}
use Rattle.dg_laws.proofs.Steps.{IsGraftedInside, within-grafted, fail-grafted, if_done-grafted}
use Rattle.dg_laws.proofs.VariableCommands.{read_variable-grafted}

longer-grafted : (text t : List ℕ) (s : State) {f : List ℕ → Then → Play Ending} → ((u : List ℕ) → Grafted (f u))
    → Grafted (λ k. longer text t s (λ u. f u k))
longer-grafted text t s f = within-grafted (length text + length t) s (f (text ++ t))

with_elements-grafted : (elements : Result (List (List ℕ)) (List ℕ)) (s : State) {f : List (List ℕ) → Then → Play Ending}
    → ((es : List (List ℕ)) → Grafted (f es)) → Grafted (λ k. with_elements elements s k (λ es. f es k))
with_elements-grafted (Err message) s f = fail-grafted message s
with_elements-grafted (Ok es) s f = f es

module _ (nested : Nested) (inside : IsGraftedInside nested) where
  behind-grafted : (text : List ℕ) {evaluation : Then → Play Ending} {f : List ℕ → State → Then → Play Ending} → Grafted evaluation
      → ((u : List ℕ) (s : State) → Grafted (f u s)) → Grafted (λ k. behind text evaluation k (λ u s. f u s k))
  behind-grafted text is more = if_done-grafted is (λ v s. longer-grafted text v s (λ u. more u s))

  pub joined-grafted : (ps : Parts) (text : List ℕ) (s : State) {f : List ℕ → State → Then → Play Ending} → ((u : List ℕ) (t : State) → Grafted (f u t))
      → Grafted (λ k. joined nested ps text s k (λ u t. f u t k))
  unfolding joined
  joined-grafted Nothing text s more = more text s
  joined-grafted (Text t ps) text s more = longer-grafted text t s (λ u. joined-grafted ps u s more)
  joined-grafted (Variable n ps) text s more = behind-grafted text (read_variable-grafted n s) (λ u t. joined-grafted ps u t more)
  joined-grafted (Element n index ps) text s more =
      joined-grafted index [] s (λ i t. behind-grafted text (read_variable-grafted (element n i) t) (λ u v. joined-grafted ps u v more))
  joined-grafted (Command script ps) text s more = behind-grafted text (inside script s) (λ u t. joined-grafted ps u t more)

  words_in-grafted : (expand : Bool) (text : List ℕ) (s : State) {f : List (List ℕ) → Then → Play Ending} → ((more : List (List ℕ)) → Grafted (f more))
      → Grafted (λ k. words_in expand text s k (λ more. f more k))
  words_in-grafted false text s f = f (text ∷ [])
  words_in-grafted true text s f = with_elements-grafted (list_in text) s f

  module _ (act : Act) (acts : (made : List (List ℕ)) (s : State) → Grafted (act made s)) where
    all_made-grafted : (made : List (List ℕ)) (ws : List NestedWord) (s : State) → Grafted (all_made nested act made ws s)
    unfolding all_made
    all_made-grafted made [] s = acts made s
    all_made-grafted made (w ∷ ws) s =
        joined-grafted w.parts [] s (λ text t. words_in-grafted w.expand text t (λ more. all_made-grafted (made ++ more) ws t))

    pub words-grafted : (ws : List Word) (s : State) → Grafted (words_made nested act ws s)
    words-grafted ws s = all_made-grafted [] (map nested_word ws) s
