-- Attempts: the outcome of a command that evaluates nothing inside.
use Rattle.std.specs.Prelude.{◌≡◌, ℕ, Bool, List, Option, Some, None, is_some, codes}
use Rattle.dg_scope.specs.Scopes.{value_of}
use Rattle.dg_language.specs.declared.code.Code.TheVariants.{Done}
use Rattle.dg_language.specs.Play.{Play, Asks, plain, lookup}
use Rattle.dg_language.specs.State.{State, learn, with_begun}
use Rattle.dg_language.specs.Evaluation.{Ending, Then, cut, fail}
use Rattle.dg_language.specs.Variables.{touch, unset_one}
use Rattle.dg_asking.specs.declared.attempt.AttemptEnd.{AttemptEnd}
use Rattle.dg_asking.specs.declared.attempt.AttemptEnd.TheVariants.{Value, Fails, TooLong}
use Rattle.dg_asking.specs.declared.attempt.Attempt.{Attempt}
use Rattle.dg_asking.specs.declared.attempt.Attempt.TheVariants.{Ends as IsOver, Asks as NeedsAnswer}

-- the same answers are known, and as much is left of the steps and of the entries that may be used
abbrev pub SpendsNothing : State → State → Type 0
SpendsNothing old new = (new.known ≡ old.known) × (new.steps ≡ old.steps) × (new.sessions.used ≡ old.sessions.used)

-- a command in this state has ended so, in that one
abbrev pub EndsAs : (State → Then → Play Ending) → State → State → AttemptEnd → Type 0
EndsAs f old new (Value v) = ((k : Then) → f old k ≡ k Done v new) × SpendsNothing old new
EndsAs f old new (Fails message) = ((k : Then) → f old k ≡ fail message new k) × SpendsNothing old new
EndsAs f old new TooLong = ((k : Then) → f old k ≡ cut (codes "value too long") new) × SpendsNothing old new

-- A command in this state has ended so, or it asks. Then globals may have begun, and nothing else has changed: with the answer
-- the command goes on from there, from its first word.
abbrev pub Attempts : (State → Then → Play Ending) → State → State → Attempt → Type 0
Attempts f old new (IsOver outcome) = EndsAs f old new outcome
Attempts f old new (NeedsAnswer q) =
    ((k : Then) → f old k ≡ Asks (plain q) (λ a. f (learn q a new) k)) × (new ≡ with_begun old new) × (lookup q old.known ≡ None)

-- What stands before the rest of a command: it is over, and the rest follows; or the command is as it was attempted here.
abbrev pub Precedes : ((State → Play Ending) → State → Then → Play Ending) → State → State → Option Attempt → Type 0
Precedes f old new None = ((more : State → Play Ending) (k : Then) → f more old k ≡ more new) × SpendsNothing old new
Precedes f old new (Some attempt) =
    (more : State → Then → Play Ending) → Attempts (λ s k. f (λ t. more t k) s k) old new attempt

-- a variable that is about to be used
abbrev pub touched : List ℕ → (State → Play Ending) → State → Then → Play Ending
touched n more s k = touch n s more

-- the first of the names of `unset`
abbrev pub unset_first : Bool → List ℕ → (State → Play Ending) → State → Then → Play Ending
unset_first complains n more s k = touch n s (λ t. unset_one complains (is_some (value_of t.variables n)) n t more k)
