-- What comes of commands that evaluate nothing inside and may ask.
use Rattle.std.proofs.Common.{◌≡◌, ℕ, List, ◌∷◌, ap, sym, ◌∙◌, refl}
use Rattle.std.specs.Prelude.{Bool}
use Rattle.dg_world.specs.declared.question.Question.{Question}
use Rattle.dg_language.specs.Play.{Play, Asks, plain}
use Rattle.dg_language.specs.State.{State, learn}
use Rattle.dg_language.specs.Evaluation.{Ending, Then}
use Rattle.dg_language.specs.Variables.{unset_all}
use Rattle.dg_asking.specs.declared.attempt.Attempt.TheVariants.{Asks as NeedsAnswer}
use Rattle.dg_asking.specs.Attempts.{Attempts, SpendsNothing, unset_first}
use Rattle.dg_machine.specs.declared.frame.Control.{Control}
use Rattle.dg_machine.specs.declared.frame.Frame.{Frame}
use Rattle.dg_machine.specs.Meaning.{weight}

-- what keeps the steps and the entries that are left keeps the weight
pub weight-kept : (o : Control) (s t : State) (fs : List Frame) → SpendsNothing s t → weight o t fs ≡ weight o s fs
unfolding weight
weight-kept o s t fs h = rw (h.1, h.2) refl

-- the first of the names of `unset`, and those behind it
abbrev pub unset_on : Bool → List ℕ → List (List ℕ) → State → Then → Play Ending
unset_on complains n left s k = unset_first complains n (λ t. unset_all complains left t k) s k

module _ (complains : Bool) (n : List ℕ) (left : List (List ℕ)) where
  pub unset-as : (names : List (List ℕ)) → names ≡ n ∷ left → unset_all complains names ≡ unset_on complains n left
  unfolding unset_all
  unset-as names e = rw e refl

  pub unset-asks : (names : List (List ℕ)) → names ≡ n ∷ left → (old new : State) (q : Question) (k : Then)
      → Attempts (unset_on complains n left) old new (NeedsAnswer q)
      → unset_all complains names old k ≡ Asks (plain q) (λ a. unset_all complains (n ∷ left) (learn q a new) k)
  unset-asks names e old new q k h =
      ap (λ (f : State → Then → Play Ending). f old k) (unset-as names e) ∙ h.0 k
      ∙ ap (Asks (plain q)) (λ i a. sym (ap (λ (f : State → Then → Play Ending). f (learn q a new) k) (unset-as (n ∷ left) refl)) i)
