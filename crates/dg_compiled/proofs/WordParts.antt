-- Words that are made step by step are made of their parts.
use Rattle.std.proofs.Common.{◌≡◌, ℕ, Bool, true, false, List, [], ◌∷◌, ◌++◌, map, refl, ap, ◌∙◌, append_assoc}
use Rattle.dg_words.specs.Piece.{Piece}
use Rattle.dg_words.specs.declared.word.Word.{Word}
use Rattle.dg_language.specs.declared.code.Code.{Code}
use Rattle.dg_language.specs.declared.code.Code.TheVariants.{Done, Failed, Returned, Broken, Continued, ExpContinued}
use Rattle.dg_language.specs.declared.substitution.Purpose.TheVariants.{Load}
use Rattle.dg_language.specs.declared.substitution.Substitution.{Substitution}
use Rattle.dg_language.specs.declared.substitution.Substitution.TheVariants.{IndexEnds, WordEnds}
use Rattle.dg_language.specs.Play.{Play}
use Rattle.dg_language.specs.State.{State}
use Rattle.dg_language.specs.Evaluation.{Ending, Then, Nested, if_done, list_in}
use Rattle.dg_language.specs.Language.{used}
use Rattle.dg_language.specs.Variables.{read_variable}
use Rattle.dg_language.specs.Words.{Act, Parts, Nothing, Text, Variable, Element, Command, behind, element, joined, longer, nested_in, nested_word, with_elements, words_in, words_made, all_made}
use Rattle.dg_language.specs.WordSteps.{ending_of, operand_steps, part_steps, substitutions}
use Rattle.dg_compiled.specs.Gathering.{gather}

module _ (nested : Nested) (act : Act) (k : Then) where
  -- what is done once parts are joined: the other steps
  abbrev goes_on : List (List ℕ) → List (List ℕ × List ℕ) → List Substitution → List ℕ → State → Play Ending
  goes_on made outer rest u t = gather nested act made outer u rest t k

  -- the end of an index: the element's value is put behind what was made before it
  index-told : (made : List (List ℕ)) (n text : List ℕ) (outer : List (List ℕ × List ℕ)) (rest : List Substitution) (x : List ℕ) (t : State)
      {f : List ℕ → State → Play Ending} → ((u : List ℕ) (v : State) → gather nested act made outer u rest v k ≡ f u v)
      → gather nested act made ((n, text) ∷ outer) x (IndexEnds ∷ rest) t k ≡ behind text (read_variable (element n x) t) k f
  unfolding gather
  index-told made n text outer rest x t then =
      ap (λ g. read_variable (element n x) t (if_done g k)) (λ i v w. longer text v w (λ u. then u w i))

  joined-parts : (made : List (List ℕ)) (ps : Parts) (rest : List Substitution) (outer : List (List ℕ × List ℕ)) (text : List ℕ) (s : State)
      → gather nested act made outer text (part_steps ps ++ rest) s k ≡ joined nested ps text s k (goes_on made outer rest)
  unfolding gather joined part_steps
  joined-parts made Nothing rest outer text s = refl
  joined-parts made (Text t ps) rest outer text s = ap (longer text t s) (λ i u. joined-parts made ps rest outer u s i)
  joined-parts made (Variable n ps) rest outer text s =
      ap (λ g. read_variable n s (if_done g k)) (λ i v t. longer text v t (λ u. joined-parts made ps rest outer u t i))
  joined-parts made (Command script ps) rest outer text s =
      ap (λ g. nested script s (if_done g k)) (λ i v t. longer text v t (λ u. joined-parts made ps rest outer u t i))
  joined-parts made (Element n index ps) rest outer text s =
      let behind_index = part_steps ps ++ rest in
      ap (λ l. gather nested act made ((n, text) ∷ outer) [] l s k) (append_assoc (part_steps index) (IndexEnds ∷ part_steps ps) rest)
      ∙ joined-parts made index (IndexEnds ∷ behind_index) ((n, text) ∷ outer) [] s
      ∙ ap (joined nested index [] s k)
      (λ i x t. index-told made n text outer behind_index x t (λ u v. joined-parts made ps rest outer u v) i)

  -- the end of a word
  word-ended : (made : List (List ℕ)) (expand : Bool) (text : List ℕ) (rest : List Substitution) (t : State) {f : List (List ℕ) → Play Ending}
      → ((more : List (List ℕ)) → gather nested act (made ++ more) [] [] rest t k ≡ f more)
      → gather nested act made [] text (ending_of expand ∷ rest) t k ≡ words_in expand text t k f
  unfolding gather
  word-ended made false text rest t then = then (text ∷ [])
  word-ended made true text rest t then = ap (with_elements (list_in text) t k) (λ i es. then es i)

  made-of-parts : (made : List (List ℕ)) (ws : List Word) (s : State)
      → gather nested act made [] [] (substitutions ws) s k ≡ all_made nested act made (map nested_word ws) s k
  unfolding gather all_made substitutions
  made-of-parts made [] s = refl
  made-of-parts made (w ∷ ws) s =
      let rest = substitutions ws in
      joined-parts made (nested_in w.parts) (ending_of w.expand ∷ rest) [] [] s
      ∙ ap (joined nested (nested_in w.parts) [] s k)
      (λ i text t. word-ended made w.expand text rest t (λ more. made-of-parts (made ++ more) ws t) i)

  -- words
  pub words-made : (ws : List Word) (s : State) → gather nested act [] [] [] (substitutions ws) s k ≡ words_made nested act ws s k
  words-made ws s = made-of-parts [] ws s

-- what goes on behind a good end does not matter to the other codes
through : (g f : List ℕ → State → Play Ending) (k : Then) (c : Code) (v : List ℕ) (s : State) → if_done g (if_done f k) c v s ≡ if_done g k c v s
through g f k Done v s = refl
through g f k Failed v s = refl
through g f k Returned v s = refl
through g f k Broken v s = refl
through g f k Continued v s = refl
through g f k ExpContinued v s = refl

module _ (nested : Nested) (f : List ℕ → State → Play Ending) (k : Then) where
  behind-through : (text : List ℕ) (evaluation : Then → Play Ending) {a b : List ℕ → State → Play Ending} → ((u : List ℕ) (t : State) → a u t ≡ b u t)
      → behind text evaluation (if_done f k) a ≡ behind text evaluation k b
  behind-through text evaluation {a} same =
      ap evaluation (λ i c v s. through (λ v s. longer text v s (λ u. a u s)) f k c v s i)
      ∙ ap (λ g. evaluation (if_done g k)) (λ i v s. longer text v s (λ u. same u s i))

  joined-through : (ps : Parts) (text : List ℕ) (s : State) (g : List ℕ → State → Play Ending) → joined nested ps text s (if_done f k) g ≡ joined nested ps text s k g
  unfolding joined
  joined-through Nothing text s g = refl
  joined-through (Text t ps) text s g = ap (longer text t s) (λ i u. joined-through ps u s g i)
  joined-through (Variable n ps) text s g = behind-through text (read_variable n s) (λ u t. joined-through ps u t g)
  joined-through (Command script ps) text s g = behind-through text (nested script s) (λ u t. joined-through ps u t g)
  joined-through (Element n index ps) text s g =
      joined-through index [] s (λ x t. behind text (read_variable (element n x) t) (if_done f k) (λ u v. joined nested ps u v (if_done f k) g))
      ∙ ap (joined nested index [] s k) (λ i x t. behind-through text (read_variable (element n x) t) (λ u v. joined-through ps u v g) i)

-- an operand
pub operand-loaded : (nested : Nested) (pieces : List Piece) (s : State) (k : Then) (f : List ℕ → State → Play Ending)
    → gather nested (used nested Load) [] [] [] (operand_steps pieces) s (if_done f k) ≡ joined nested (nested_in pieces) [] s k f
unfolding gather
operand-loaded nested pieces s k f =
    joined-parts nested (used nested Load) (if_done f k) [] (nested_in pieces) (WordEnds ∷ []) [] [] s
    ∙ joined-through nested f k (nested_in pieces) [] s f
