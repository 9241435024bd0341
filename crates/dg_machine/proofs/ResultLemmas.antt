-- The result of a call that is returned as it is: what holds of the pace of the one holds of the other's.
use Rattle.std.proofs.Common.{◌≡◌, ℕ, ◌+◌, ◌^◌, ◌≤◌, List}
use Rattle.std.specs.Prelude.{Result, IfOk}
use Rattle.std.proofs.lemmas.Result.{IfOk-weaker}
use Rattle.dg_world.specs.declared.question.Read.{Read}
use Rattle.dg_language.specs.Play.{Play}
use Rattle.dg_language.specs.State.{State}
use Rattle.dg_language.specs.Evaluation.{Ending, Then}
use Rattle.dg_machine.specs.declared.frame.Pace.{Pace}
use Rattle.dg_machine.specs.declared.machine.Machine.{Machine}
use Rattle.dg_machine.specs.Meaning.{all_back, weight_of, Comes, Goes, RunsAs, Tries}
use Rattle.dg_machine.proofs.MachineLemmas.{Goes-along, Goes-comes}
use Rattle.dg_machine.proofs.LoopLemmas.{Goes-on}
use Rattle.dg_machine.proofs.GatherLemmas.{Comes-along}
use Rattle.dg_machine.proofs.StepLemmas.{Goes-runs}
use Rattle.dg_machine.proofs.OpeningLemmas.{Goes-opens}

module _ {E : Type 0} (r : Result Pace E) where
  pub Goes-along-ok : (play play' : Play Ending) (known known' : List Read) (w w' : ℕ) (m : Machine) → IfOk r (Goes play known w m)
      → play' ≡ play → known ≡ known' → w ≤ w' → IfOk r (Goes play' known' w' m)
  Goes-along-ok play play' known known' w w' m h e f l = IfOk-weaker r _ _ (λ p g. Goes-along p play play' known known' w w' m g e f l) h

  pub Goes-comes-ok : (play play' : Play Ending) (known : List Read) (w w' : ℕ) (m : Machine) → IfOk r (Goes play known w m)
      → play' ≡ play → w ≤ w' → IfOk r (Comes play' known w' m)
  Goes-comes-ok play play' known w w' m h e l = IfOk-weaker r _ _ (λ p g. Goes-comes p play play' known w w' m g e l) h

  pub Comes-along-ok : (play play' : Play Ending) (known : List Read) (w w' : ℕ) (m : Machine) → IfOk r (Comes play known w m)
      → play' ≡ play → w ≤ w' → IfOk r (Comes play' known w' m)
  Comes-along-ok play play' known w w' m h e l = IfOk-weaker r _ _ (λ p g. Comes-along p play play' known w w' m g e l) h

  pub Goes-on-ok : (play play' : Play Ending) (known known' : List Read) (w w' : ℕ) (m : Machine) → IfOk r (Goes play known w m)
      → play' ≡ play → known ≡ known' → w ≤ w' → IfOk r (Comes play' known' w' m)
  Goes-on-ok play play' known known' w w' m h e f l = IfOk-weaker r _ _ (λ p g. Goes-on p play play' known known' w w' m g e f l) h

  pub Goes-runs-ok : (play play' : Play Ending) (again : State → Play Ending) (known : List Read) (w : ℕ) (old new : Machine) → IfOk r (Goes play known w new)
      → play' ≡ play → known ≡ old.state.known → w ≤ weight_of old + 2 ^ 250 → IfOk r (Tries play' again (2 ^ 250) old new)
  Goes-runs-ok play play' again known w old new h e f l = IfOk-weaker r _ _ (λ p g. Goes-runs p play play' again known w old new g e f l) h

  pub Goes-opens-ok : (f : State → Then → Play Ending) (w v : ℕ) (play : Play Ending) (known : List Read) (old new : Machine) → IfOk r (Goes play known v new)
      → f old.state (all_back old.stack) ≡ play → known ≡ old.state.known → v ≤ weight_of old + w → IfOk r (RunsAs f w old new)
  Goes-opens-ok f w v play known old new h e g l = IfOk-weaker r _ _ (λ p j. Goes-opens p f w v play known old new j e g l) h
