-- Actions on sessions and the waits of `expect`, as frames.
use Rattle.std.specs.Prelude.{◌≡◌, ℕ, ◌+◌, ◌<◌, ◌≤◌, [], codes}
use Rattle.dg_transcript.specs.declared.cursor.Action.{Action}
use Rattle.dg_transcript.specs.declared.cursor.Action.TheVariants as action
use Rattle.dg_transcript.specs.Output.{output_of}
use Rattle.dg_sessions.specs.Views.{id_of}
use Rattle.dg_language.specs.declared.state.TheConstants.{STEPS}
use Rattle.dg_sessions.specs.declared.sessions.TheConstants.{MAX_USED}
use Rattle.dg_language.specs.declared.code.Code.TheVariants.{Done}
use Rattle.dg_language.specs.Play.{Play}
use Rattle.dg_language.specs.State.{State, assigned, with_sessions}
use Rattle.dg_language.specs.Evaluation.{Ending, Then}
use Rattle.dg_language.specs.Variables.{touch}
use Rattle.dg_language.specs.Sessions.{Told, perform, depart, spawned, unless_failed, wait_for, wait_value}
use Rattle.dg_language.specs.Expecting.{Waiting, after_limit, after_read, rounds, with_limit}
use Rattle.dg_language.specs.ExpectWords.{regexes_in}
use Rattle.dg_language.specs.Patterns.{with_patterns}
use Rattle.dg_language.specs.Language.{evaluate}
use Rattle.dg_machine.specs.declared.frame.After.{After}
use Rattle.dg_machine.specs.declared.frame.After.TheVariants.{Spawned, Reported, Waited, ToWait}
use Rattle.dg_machine.specs.declared.frame.Acting.{Acting}
use Rattle.dg_machine.specs.declared.frame.Reach.{Reach}
use Rattle.dg_machine.specs.declared.frame.Reach.TheVariants.{Trying, Reading, InAction}
use Rattle.dg_machine.specs.declared.frame.Wait.{Wait}
use Rattle.dg_machine.specs.declared.frame.Limiting.{Limiting}
use Rattle.dg_machine.specs.declared.frame.Compiling.{Compiling}

-- ---- an action

-- what is done with the entry that has answered an action
abbrev pub told_after : After → ℕ → Then → Told
told_after (Spawned words) n k e s more = spawned n words e s k
told_after Reported n k e s more = unless_failed n e s k
told_after ToWait n k e s more = wait_for n s k
told_after Waited n k e s more = k Done (wait_value n e) s

abbrev pub acting : Acting → State → Then → Play Ending
acting a s k = perform a.session a.action (told_after a.after a.session k) depart s

-- a session that has started gets the name in `spawn_id`
abbrev pub naming : ℕ → State → Then → Play Ending
naming n s k = touch (codes "spawn_id") s (λ t. k Done (codes "0") (assigned (codes "spawn_id") (id_of n) t))

abbrev pub after_weight : After → ℕ
after_weight (Spawned words) = 20
after_weight Reported = 10
after_weight ToWait = 20
after_weight Waited = 10

-- ---- a wait

abbrev pub waiting_of : Wait → Waiting
waiting_of w = record { session = w.session; pairs = w.pairs; limit = w.limit }

-- another round of the wait
abbrev pub again : Wait → Then → State → Play Ending
again w k s = rounds w.left (evaluate w.depth) (waiting_of w) s k

-- what a wait does from where it stands: its round begins, the session is read, or an action runs inside of it
abbrev pub awaiting : Reach → Wait → State → Then → Play Ending
awaiting Trying w s k = again w k s
awaiting (Reading limit) w s k =
    perform w.session (action.Read limit)
    (λ e t more. after_read (evaluate w.depth) (waiting_of w) (again w k) k (output_of e) t more) (after_limit (evaluate w.depth) (waiting_of w) (again w k) k) s
awaiting InAction w s k = k Done [] s

abbrev pub reach_weight : Reach → ℕ
reach_weight Trying = 5
reach_weight (Reading limit) = 30
reach_weight InAction = 10

-- the first round of a wait
abbrev pub first_round : Compiling → State → Then → Play Ending
first_round c s k = rounds (STEPS + 1) (evaluate c.depth) (record { session = c.session; pairs = c.pairs; limit = c.limit }) s k

-- the `-re` patterns of a wait are asked for, and then its first round begins
abbrev pub compiling_on : Compiling → State → Then → Play Ending
compiling_on c s k = with_patterns (regexes_in c.pairs) s k (λ t. first_round c t k)

-- the same, once its limit is known
abbrev pub compiled_with : Limiting → ℕ → State → Then → Play Ending
compiled_with l limit s k = compiling_on (record { session = l.session; pairs = l.pairs; limit = limit; depth = l.depth }) s k

-- the limit of a wait is sought, and then its patterns
abbrev pub limiting : Limiting → State → Then → Play Ending
limiting l s k = with_limit l.timeout s k (λ limit t. compiled_with l limit t k)

-- ---- the next entry

-- what is left of a read's limit
abbrev pub limit_in : Action → ℕ
limit_in (action.Read left) = left
limit_in (action.Spawn words) = 0
limit_in (action.Send bytes) = 0
limit_in action.Close = 0
limit_in action.Wait = 0

-- a read goes on as a read
abbrev pub SameKind : Action → Action → Type 0
SameKind (action.Read left) b = b ≡ action.Read (limit_in b)
SameKind (action.Spawn words) b = Unit {0}
SameKind (action.Send bytes) b = Unit {0}
SameKind action.Close b = Unit {0}
SameKind action.Wait b = Unit {0}

-- one entry more is used up, and nothing has changed but the sessions
pub record UsesOne (old new : State) : Type 0 where
  pub same : new ≡ with_sessions new.sessions old
  pub one : new.sessions.used ≡ old.sessions.used + 1
  pub room : old.sessions.used < MAX_USED

-- nothing has changed but the sessions, and no entry is free again
pub record Acts (old new : State) : Type 0 where
  pub same : new ≡ with_sessions new.sessions old
  pub more : old.sessions.used ≤ new.sessions.used
