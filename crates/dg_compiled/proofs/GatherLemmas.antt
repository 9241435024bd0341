-- How the words of a command are made, a step at a time.
use Rattle.std.proofs.Common.{◌≡◌, ℕ, List, [], ◌∷◌, ◌++◌, refl}
use Rattle.std.specs.Prelude.{Option, Some, None}
use Rattle.dg_scope.specs.Scopes.{value_of}
use Rattle.dg_language.specs.declared.substitution.Substitution.{Substitution}
use Rattle.dg_language.specs.declared.substitution.Substitution.TheVariants.{Literal, Variable, IndexBegins, IndexEnds, Script, WordEnds, ListEnds}
use Rattle.dg_language.specs.Play.{Play}
use Rattle.dg_language.specs.State.{State}
use Rattle.dg_language.specs.Evaluation.{Ending, Then, fail, if_done, list_in}
use Rattle.dg_language.specs.Variables.{touch, given, cannot_read, read_variable}
use Rattle.dg_language.specs.Language.{evaluate}
use Rattle.dg_language.specs.Words.{Act, longer, element, with_elements}
use Rattle.dg_compiled.specs.Gathering.{gather}

-- an error goes through what would be done after a good end
pub fail-through : (message : List ℕ) (s : State) (f : List ℕ → State → Play Ending) (k : Then) → fail message s (if_done f k) ≡ fail message s k
unfolding fail
fail-through message s f k = refl

-- a variable that is set is given, and one that is not is an error
module _ (o : Option (List ℕ)) (n : List ℕ) (s : State) (f : List ℕ → State → Play Ending) (k : Then) where
  pub given-some : (v : List ℕ) → o ≡ Some v → given o n s (if_done f k) ≡ f v s
  given-some v e = rw e refl

  pub given-none : o ≡ None → given o n s (if_done f k) ≡ fail (cannot_read n) s k
  given-none e = rw e (fail-through (cannot_read n) s f k)

-- one equation for each step
module _ (d : ℕ) (act : Act) (made : List (List ℕ)) (outer : List (List ℕ × List ℕ)) (text : List ℕ) (left : List Substitution) (s : State) (k : Then) where
  pub gather-none : left ≡ [] → gather (evaluate d) act made outer text left s k ≡ act made s k
  unfolding gather
  gather-none e = rw e refl

  pub gather-literal : (t : List ℕ) (ps : List Substitution) → left ≡ Literal t ∷ ps
      → gather (evaluate d) act made outer text left s k ≡ longer text t s (λ u. gather (evaluate d) act made outer u ps s k)
  unfolding gather
  gather-literal t ps e = rw e refl

  pub gather-variable : (n : List ℕ) (ps : List Substitution) → left ≡ Variable n ∷ ps
      → gather (evaluate d) act made outer text left s k
      ≡ touch n s (λ s'. given (value_of s'.variables n) n s'
      (if_done (λ v s''. longer text v s'' (λ u. gather (evaluate d) act made outer u ps s'' k)) k))
  unfolding gather read_variable
  gather-variable n ps e = rw e refl

  pub gather-begins : (n : List ℕ) (ps : List Substitution) → left ≡ IndexBegins n ∷ ps
      → gather (evaluate d) act made outer text left s k ≡ gather (evaluate d) act made ((n, text) ∷ outer) [] ps s k
  unfolding gather
  gather-begins n ps e = rw e refl

  pub gather-on : (p : Substitution) (ps : List Substitution) → left ≡ p ∷ ps
      → gather (evaluate d) act made outer text left s k ≡ gather (evaluate d) act made outer text (p ∷ ps) s k
  gather-on p ps e = rw e refl

  pub gather-script : (t : List ℕ) (ps : List Substitution) → left ≡ Script t ∷ ps
      → gather (evaluate d) act made outer text left s k
      ≡ evaluate d t s (if_done (λ v s'. longer text v s' (λ u. gather (evaluate d) act made outer u ps s' k)) k)
  unfolding gather
  gather-script t ps e = rw e refl

  pub gather-word : (ps : List Substitution) → left ≡ WordEnds ∷ ps
      → gather (evaluate d) act made outer text left s k ≡ gather (evaluate d) act (made ++ text ∷ []) outer [] ps s k
  unfolding gather
  gather-word ps e = rw e refl

  pub gather-list : (ps : List Substitution) → left ≡ ListEnds ∷ ps
      → gather (evaluate d) act made outer text left s k
      ≡ with_elements (list_in text) s k (λ es. gather (evaluate d) act (made ++ es) outer [] ps s k)
  unfolding gather
  gather-list ps e = rw e refl

  -- an index that did not begin ends
  pub index-none : outer ≡ [] → gather (evaluate d) act made outer text (IndexEnds ∷ left) s k ≡ gather (evaluate d) act made outer text left s k
  unfolding gather
  index-none e = rw e refl

  -- an index ends
  pub index-ends : (n before : List ℕ) (more : List (List ℕ × List ℕ)) → outer ≡ (n, before) ∷ more
      → gather (evaluate d) act made outer text (IndexEnds ∷ left) s k
      ≡ touch (element n text) s (λ s'. given (value_of s'.variables (element n text)) (element n text) s'
      (if_done (λ v s''. longer before v s'' (λ u. gather (evaluate d) act made more u left s'' k)) k))
  unfolding gather read_variable
  index-ends n before more e = rw e refl
