-- The making of words. None is longer than a value may be.
use Rattle.std.proofs.Common.{◌≡◌, ℕ, ◌+◌, ◌≤◌, Bool, true, false, List, [], ◌∷◌, ◌++◌, map, length, refl, arith, length-append}
use Rattle.std.specs.Prelude.{Result, Ok, Err, nat_lt}
use Rattle.std.proofs.lemmas.Bool.Decides.{nat_tests}
use Rattle.dg_transcript.proofs.Lists.{All-push, All-append}
use Rattle.dg_words.specs.declared.word.Word.{Word}
use Rattle.dg_language.specs.Play.{Play}
use Rattle.dg_language.specs.State.{State}
use Rattle.dg_language.specs.Evaluation.{Ending, Then, Nested, list_in}
use Rattle.dg_language.specs.Words.{Act, Parts, Nothing, Text, Variable, Element, Command, NestedWord, all_made, behind, element, joined, longer, nested_word, with_elements, words_in, words_made}
use Rattle.dg_living.proofs.ElementLengths.{IsShort, AreShort, elements-short}
use Rattle.dg_living.proofs.Steps.{Lives, LivesInside, within-known, fail-lives, if_done-lives}
use Rattle.dg_living.proofs.VariableCommands.{read_variable-lives}

not_longer : (n m : ℕ) → nat_lt m n ≡ false → n ≤ m
not_longer n m e = grind (arith, nat_tests)

longer-lives : (text t : List ℕ) (s : State) {f : List ℕ → Then → Play Ending} → ((u : List ℕ) → IsShort u → Lives s (f u))
    → Lives s (λ k. longer text t s (λ u. f u k))
longer-lives text t s f =
    within-known (length text + length t) s (λ short.
    f (text ++ t) (omega (arith, not_longer (length text + length t) 1048576 short, length-append text t)))

with_elements-lives : (elements : Result (List (List ℕ)) (List ℕ)) (s : State) {f : List (List ℕ) → Then → Play Ending}
    → ((es : List (List ℕ)) → elements ≡ Ok es → Lives s (f es)) → Lives s (λ k. with_elements elements s k (λ es. f es k))
with_elements-lives (Err message) s f = fail-lives message s
with_elements-lives (Ok es) s f = f es refl

module _ (nested : Nested) (inside : LivesInside nested) where
  behind-lives : (text : List ℕ) (s : State) {evaluation : Then → Play Ending} {f : List ℕ → State → Then → Play Ending} → Lives s evaluation
      → ((u : List ℕ) (t : State) → IsShort u → Lives t (f u t)) → Lives s (λ k. behind text evaluation k (λ u t. f u t k))
  behind-lives text s is more = if_done-lives is (λ v t. longer-lives text v t (λ u now. more u t now))

  pub joined-lives : (ps : Parts) (text : List ℕ) (s : State) {f : List ℕ → State → Then → Play Ending} → IsShort text
      → ((u : List ℕ) (t : State) → IsShort u → Lives t (f u t)) → Lives s (λ k. joined nested ps text s k (λ u t. f u t k))
  unfolding joined
  joined-lives Nothing text s fits more = more text s fits
  joined-lives (Text t ps) text s fits more = longer-lives text t s (λ u now. joined-lives ps u s now more)
  joined-lives (Variable n ps) text s fits more = behind-lives text s (read_variable-lives n s) (λ u t now. joined-lives ps u t now more)
  joined-lives (Element n index ps) text s fits more =
      joined-lives index [] s (omega arith)
      (λ i t short. behind-lives text t (read_variable-lives (element n i) t) (λ u v now. joined-lives ps u v now more))
  joined-lives (Command script ps) text s fits more = behind-lives text s (inside script s) (λ u t now. joined-lives ps u t now more)

  words_in-lives : (expand : Bool) (text : List ℕ) (s : State) {f : List (List ℕ) → Then → Play Ending} → IsShort text
      → ((more : List (List ℕ)) → AreShort more → Lives s (f more)) → Lives s (λ k. words_in expand text s k (λ more. f more k))
  words_in-lives false text s fits f = f (text ∷ []) (All-push IsShort [] text tt fits)
  words_in-lives true text s fits f = with_elements-lives (list_in text) s (λ es is. f es (elements-short text es is fits))

  module _ (act : Act) (acts : (made : List (List ℕ)) (s : State) → AreShort made → Lives s (act made s)) where
    all_made-lives : (made : List (List ℕ)) (ws : List NestedWord) (s : State) → AreShort made → Lives s (all_made nested act made ws s)
    unfolding all_made
    all_made-lives made [] s short = acts made s short
    all_made-lives made (w ∷ ws) s short =
        joined-lives w.parts [] s (omega arith)
        (λ text t fits. words_in-lives w.expand text t fits (λ more others. all_made-lives (made ++ more) ws t (All-append IsShort made more short others)))

    pub words-lives : (ws : List Word) (s : State) → Lives s (words_made nested act ws s)
    words-lives ws s = all_made-lives [] (map nested_word ws) s tt
