-- How the words of a command are made.
use Rattle.std.proofs.Common.{◌≡◌, ℕ, ◌+◌, ◌*◌, ◌<◌, ◌≤◌, List, ◌∷◌, length, ap, sym, ◌∙◌, arith}
use Rattle.std.specs.Prelude.{None}
use Rattle.dg_world.specs.declared.question.Read.{Read}
use Rattle.dg_language.specs.Play.{Play}
use Rattle.dg_language.specs.State.{State, with_begun}
use Rattle.dg_language.specs.Evaluation.{Ending}
use Rattle.dg_language.specs.Variables.{touch}
use Rattle.dg_machine.specs.declared.frame.Frame.{Frame}
use Rattle.dg_machine.specs.declared.frame.Frame.TheVariants.{Gathering}
use Rattle.dg_compiled.specs.declared.making.Making.{Making}
use Rattle.dg_machine.specs.declared.frame.Control.{Control}
use Rattle.dg_machine.specs.declared.frame.Control.TheVariants.{Go}
use Rattle.dg_machine.specs.declared.frame.Pace.{Pace}
use Rattle.dg_machine.specs.declared.frame.Pace.TheVariants.{Moved, Stands, Over, Lost}
use Rattle.dg_machine.specs.declared.machine.Machine.{Machine}
use Rattle.dg_machine.specs.Meaning.{reading, budget, Goes, Comes, Readies, weight_of, weight, stack_weight, all_back}
use Rattle.dg_machine.proofs.MachineLemmas.{Goes-along, Goes-comes}

-- what comes from here comes from an equal meaning with more weight
pub Comes-along : (p : Pace) (play play' : Play Ending) (known : List Read) (w w' : ℕ) (m : Machine) → Comes play known w m p
    → play' ≡ play → w ≤ w' → Comes play' known w' m p
Comes-along Moved play play' known w w' m h e l = (h.0 ∙ sym e, h.1, (let g : weight_of m < w = h.2 in omega arith))
Comes-along (Stands q) play play' known w w' m h e l = (e ∙ h.0, h.1, h.2)
Comes-along (Over v) play play' known w w' m h e l = (e ∙ h.0, h.1)
Comes-along Lost play play' known w w' m h e l = h

-- globals that have begun weigh nothing
pub weight-same : (c c' : Control) (s s' : State) (fs fs' : List Frame) → c ≡ c' → s ≡ with_begun s' s → fs ≡ fs' → weight c s fs ≡ weight c' s' fs'
unfolding weight
weight-same c c' s s' fs fs' e g h =
    ap (λ (t : State). weight c t fs) g ∙ ap (λ (x : Control). weight x s' fs) e ∙ ap (λ (xs : List Frame). weight c' s' xs) h

-- a variable could be used, and its value is added
module _ (n : List ℕ) (old new : Machine) (m : Making) (d : ℕ) where
  pub ready-reading : (last : Machine) (p : Pace) → Readies n old new None
      → Goes (reading m d n new.state (all_back new.stack)) new.state.known (weight_of new + budget m.purpose + 8 + 4 * length m.left) last p
      → Comes (touch n old.state (λ s. reading m d n s (all_back old.stack))) old.state.known (weight_of old + budget m.purpose + 8 + 4 * length m.left) last p
  ready-reading last p h g =
      let stack = ap (λ (x : Machine). x.stack) h.1 in
      let control = ap (λ (x : Machine). x.control) h.1 in
      let state : new.state ≡ with_begun old.state new.state = ap (λ (x : Machine). x.state) h.1 in
      let w : weight_of new ≡ weight_of old = weight-same new.control old.control new.state old.state new.stack old.stack control state stack in
      let l : weight_of new + budget m.purpose + 8 + 4 * length m.left ≤ weight_of old + budget m.purpose + 8 + 4 * length m.left = omega arith in
      let e : reading m d n new.state (all_back old.stack) ≡ reading m d n new.state (all_back new.stack) =
      ap (λ (fs : List Frame). reading m d n new.state (all_back fs)) (sym stack) in
      let went = Goes-along p (reading m d n new.state (all_back new.stack)) (reading m d n new.state (all_back old.stack)) new.state.known old.state.known
      (weight_of new + budget m.purpose + 8 + 4 * length m.left) (weight_of old + budget m.purpose + 8 + 4 * length m.left) last g e (ap (λ (x : Machine). x.state.known) h.1) l in
      Goes-comes p (reading m d n new.state (all_back old.stack)) (touch n old.state (λ s. reading m d n s (all_back old.stack))) old.state.known
      (weight_of old + budget m.purpose + 8 + 4 * length m.left) (weight_of old + budget m.purpose + 8 + 4 * length m.left) last went
      (h.0 (λ s. reading m d n s (all_back old.stack))) (omega arith)

-- the frame that makes the words of a command
pub weight-gathering : (s : State) (m : Making) (d : ℕ) (fs : List Frame) → weight Go s (Gathering m d ∷ fs) ≡ weight Go s fs + budget m.purpose + 4 + 4 * length m.left
unfolding weight stack_weight
weight-gathering s m d fs = omega arith
