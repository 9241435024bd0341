-- The session of a command.
use Rattle.std.specs.Prelude.{◌≡◌, ℕ, Bool, Option, Some, None, List, Result, Ok, Err}
use Rattle.dg_sessions.specs.Phases.{is_open, has_started, can_wait}
use Rattle.dg_sessions.specs.declared.phase.Phase.{Phase}
use Rattle.dg_language.specs.Play.{Play}
use Rattle.dg_language.specs.State.{State}
use Rattle.dg_language.specs.Evaluation.{Ending, Then}
use Rattle.dg_language.specs.Sessions.{fit_session, not_open, on_session}
use Rattle.dg_asking.specs.declared.attempt.AttemptEnd.TheVariants.{Fails}
use Rattle.dg_asking.specs.declared.attempt.Attempt.{Attempt}
use Rattle.dg_asking.specs.declared.attempt.Attempt.TheVariants.{Ends as IsOver}
use Rattle.dg_asking.specs.declared.seeking.Fit.{Fit}
use Rattle.dg_asking.specs.declared.seeking.Fit.TheVariants.{Open, Started, Waitable}
use Rattle.dg_asking.specs.Attempts.{Attempts, SpendsNothing}

abbrev pub fit_of : Fit → Phase → Bool
fit_of Open p = is_open p
fit_of Started p = has_started p
fit_of Waitable p = can_wait p

-- the session of this name, if it is fit for a call; or the error that it isn't
abbrev pub FindsFit : Fit → List ℕ → State → Result ℕ Attempt → Type 0
FindsFit fit id s (Ok n) = fit_session (fit_of fit) id s.sessions ≡ Some n
FindsFit fit id s (Err attempt) = (fit_session (fit_of fit) id s.sessions ≡ None) × (attempt ≡ IsOver (Fails (not_open id)))

-- the session that a command goes on with; or the command is as it was attempted here
abbrev pub Seeks : Fit → Option (List ℕ) → State → State → Result ℕ Attempt → Type 0
Seeks fit id old new (Ok n) =
    ((k : Then) (f : ℕ → State → Play Ending) → on_session (fit_of fit) id old k f ≡ f n new) × SpendsNothing old new
Seeks fit id old new (Err attempt) =
    (more : ℕ → State → Then → Play Ending) → Attempts (λ s k. on_session (fit_of fit) id s k (λ n t. more n t k)) old new attempt
