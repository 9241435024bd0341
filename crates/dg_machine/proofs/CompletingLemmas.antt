-- What a command changes that evaluates nothing inside: neither the answers, nor the steps, nor the entries that were used.
use Rattle.std.proofs.Common.{◌≡◌, ℕ, Bool, true, false, List, [], ◌∷◌, ◌++◌, refl}
use Rattle.std.specs.Prelude.{is_some}
use Rattle.dg_results.specs.declared.call.ResultCall.{ResultCall}
use Rattle.dg_language.specs.declared.completion.Change.{Change}
use Rattle.dg_language.specs.declared.completion.Change.TheVariants.{Nothing, Calls, Sets, Unsets, Defines}
use Rattle.dg_language.specs.declared.procedure.Procedure.{Procedure}
use Rattle.dg_language.specs.State.{State, setting_of, with_call, with_setting, without_setting, defined}
use Rattle.dg_language.specs.Completing.{performed}
use Rattle.dg_machine.specs.declared.frame.Control.{Control}
use Rattle.dg_machine.specs.declared.frame.Frame.{Frame}
use Rattle.dg_machine.specs.Meaning.{weight}

known-called : (c : ResultCall) (s : State) → (with_call c s).known ≡ s.known
unfolding with_call
known-called c s = refl

-- a state that has one more setting, or is as it was
abbrev pub set_if : Bool → List ℕ → List ℕ → State → State
set_if has key value s = elim has as (λ _. State) [ true ↦ s | false ↦ record s { settings = s.settings ++ (key, value) ∷ [] } ]

known-set_if : (has : Bool) (key value : List ℕ) (s : State) → (set_if has key value s).known ≡ s.known
known-set_if true key value s = refl
known-set_if false key value s = refl

known-set : (key value : List ℕ) (s : State) → (with_setting key value s).known ≡ s.known
unfolding with_setting
known-set key value s = known-set_if (is_some (setting_of key s)) key value s

known-unset : (key : List ℕ) (s : State) → (without_setting key s).known ≡ s.known
unfolding without_setting
known-unset key s = refl

known-defined : (name : List ℕ) (p : Procedure) (s : State) → (defined name p s).known ≡ s.known
unfolding defined
known-defined name p s = refl

pub known-performed : (e : Change) (s : State) → (performed e s).known ≡ s.known
known-performed Nothing s = refl
known-performed (Calls c) s = known-called c s
known-performed (Sets key value) s = known-set key value s
known-performed (Unsets key) s = known-unset key s
known-performed (Defines name p) s = known-defined name p s

module _ (o : Control) (fs : List Frame) where
  weight-called : (c : ResultCall) (s : State) → weight o (with_call c s) fs ≡ weight o s fs
  unfolding with_call weight
  weight-called c s = refl

  weight-set_if : (has : Bool) (key value : List ℕ) (s : State) → weight o (set_if has key value s) fs ≡ weight o s fs
  unfolding weight
  weight-set_if true key value s = refl
  weight-set_if false key value s = refl

  weight-set : (key value : List ℕ) (s : State) → weight o (with_setting key value s) fs ≡ weight o s fs
  unfolding with_setting
  weight-set key value s = weight-set_if (is_some (setting_of key s)) key value s

  weight-unset : (key : List ℕ) (s : State) → weight o (without_setting key s) fs ≡ weight o s fs
  unfolding without_setting weight
  weight-unset key s = refl

  weight-defined : (name : List ℕ) (p : Procedure) (s : State) → weight o (defined name p s) fs ≡ weight o s fs
  unfolding defined weight
  weight-defined name p s = refl

  pub weight-performed : (e : Change) (s : State) → weight o (performed e s) fs ≡ weight o s fs
  weight-performed Nothing s = refl
  weight-performed (Calls c) s = weight-called c s
  weight-performed (Sets key value) s = weight-set key value s
  weight-performed (Unsets key) s = weight-unset key s
  weight-performed (Defines name p) s = weight-defined name p s
