-- The commands on sessions, and what their actions weigh.
use Rattle.std.proofs.Common.{◌≡◌, ℕ, suc, ◌+◌, ◌^◌, ◌<◌, ◌≤◌, Bool, true, false, List, ◌∷◌, length, refl, ap, sym, ◌∙◌, arith}
use Rattle.std.specs.Prelude.{Option, None, Ok, Err, nat_lt, nat_le, codes}
use Rattle.dg_transcript.specs.declared.entry.Entry.{Entry}
use Rattle.dg_transcript.specs.declared.cursor.Action.{Action}
use Rattle.dg_transcript.specs.declared.cursor.Action.TheVariants as action
use Rattle.dg_world.specs.declared.question.Answer.{Answer}
use Rattle.dg_world.specs.declared.question.Answer.TheVariants as answer
use Rattle.std.proofs.lemmas.Bool.{lt-ltb}
use Rattle.dg_sessions.specs.Views.{SessionsView, id_of, most_sessions}
use Rattle.dg_sessions.specs.Steps.{with_session}
use Rattle.dg_language.specs.declared.code.Code.TheVariants.{Done}
use Rattle.dg_language.specs.Play.{Play}
use Rattle.dg_language.specs.State.{State, assigned, with_begun, with_sessions}
use Rattle.dg_language.specs.Evaluation.{Ending, Then, fail}
use Rattle.dg_language.specs.Sessions.{on_session, start, spawned, perform, depart, entry_in, close_and_wait, do_close, do_send, do_wait, send_to}
use Rattle.dg_language.specs.SessionWords.{id_words, send_words}
use Rattle.dg_sessions.specs.Phases.{is_open, can_wait}
use Rattle.dg_asking.specs.declared.seeking.Fit.{Fit}
use Rattle.dg_asking.specs.Seeking.{fit_of, Seeks}
use Rattle.dg_asking.proofs.SeekingLemmas.{on_words-read, on_words-fault}
use Rattle.dg_machine.specs.declared.frame.Control.{Control}
use Rattle.dg_machine.specs.declared.frame.Control.TheVariants.{Go}
use Rattle.dg_machine.specs.declared.frame.Acting.{Acting}
use Rattle.dg_machine.specs.declared.frame.After.{After}
use Rattle.dg_machine.specs.declared.frame.After.TheVariants.{Spawned, Reported}
use Rattle.dg_machine.specs.declared.frame.Came.TheVariants as came
use Rattle.dg_machine.specs.declared.frame.Closing.{Closing}
use Rattle.dg_machine.specs.declared.frame.Frame.{Frame}
use Rattle.dg_machine.specs.declared.frame.Frame.TheVariants as frame
use Rattle.dg_machine.specs.declared.frame.Pace.{Pace}
use Rattle.dg_machine.specs.declared.frame.Pace.TheVariants.{Moved, Over}
use Rattle.dg_machine.specs.declared.machine.Machine.{Machine}
use Rattle.dg_machine.specs.Acting.{UsesOne, acting, naming, told_after, after_weight}
use Rattle.dg_machine.specs.Meaning.{all_back, ends_with, go, rest, weight_of, weight, Comes, Goes, Readies, command_weight, RunsAs}
use Rattle.dg_machine.specs.Performing.{Performs}
use Rattle.dg_machine.proofs.AttemptLemmas.{weight-kept}
use Rattle.dg_machine.proofs.GatherLemmas.{weight-same}
use Rattle.dg_machine.proofs.StepLemmas.{Goes-runs}
use Rattle.dg_machine.proofs.MachineLemmas.{nat_lt-false, weight-cons}
use Rattle.dg_machine.proofs.LoopLemmas.{Goes-on}

-- ---- what an entry leaves as it is

pub known-sessions : (s t : State) → t ≡ with_sessions t.sessions s → t.known ≡ s.known
unfolding with_sessions
known-sessions s t e = ap (λ (x : State). x.known) e

steps-sessions : (s t : State) → t ≡ with_sessions t.sessions s → t.steps ≡ s.steps
unfolding with_sessions
steps-sessions s t e = ap (λ (x : State). x.steps) e

-- an entry that is used up is as much less
pub weight-uses : (s t : State) (c : Control) (fs : List Frame) → UsesOne s t → weight c t fs + 2 ^ 64 ≡ weight c s fs
unfolding weight
weight-uses s t c fs u =
    let steps = steps-sessions s t u.same in
    let one = u.one in
    let room = u.room in
    rw steps (omega (arith, one, room))

-- ---- the session of a command

-- a command that goes on with a session
pub sought-runs : (fit : Fit) (id : Option (List ℕ)) (n v : ℕ) (f : ℕ → State → Then → Play Ending) (old mid new : Machine) (p : Pace)
    → mid ≡ record old { state = mid.state } → Seeks fit id old.state mid.state (Ok n)
    → Goes (f n mid.state (all_back mid.stack)) mid.state.known v new p → v ≤ weight_of mid + 2 ^ 250
    → RunsAs (λ s k. on_session (fit_of fit) id s k (λ m t. f m t k)) command_weight old new p
sought-runs fit id n v f old mid new p e h g l =
    let k = all_back old.stack in
    let stack = ap (λ (x : Machine). x.stack) e in
    let control = ap (λ (x : Machine). x.control) e in
    let same : weight_of mid ≡ weight_of old = rw (stack, control) (weight-kept old.control old.state mid.state old.stack h.1) in
    Goes-runs p (f n mid.state (all_back mid.stack)) (on_session (fit_of fit) id old.state k (λ m t. f m t k)) (λ s. on_session (fit_of fit) id s k (λ m t. f m t k))
    mid.state.known v old new g
    (h.0 k (λ m t. f m t k) ∙ ap (λ (fs : List Frame). f n mid.state (all_back fs)) (sym stack)) h.1.0 (omega (arith, same))

-- a command that is another one, which asks nothing
pub goes-as : (f g : State → Then → Play Ending) (old new : Machine) (p : Pace) (v : ℕ) → Goes (g old.state (all_back old.stack)) old.state.known v new p
    → f ≡ g → v ≤ weight_of old + 2 ^ 250 → RunsAs f command_weight old new p
goes-as f g old new p v h e l =
    Goes-runs p (g old.state (all_back old.stack)) (f old.state (all_back old.stack)) (λ s. f s (all_back old.stack)) old.state.known v old new h
    (ap (λ (x : State → Then → Play Ending). x old.state (all_back old.stack)) e) refl l

pub fault-runs : (f : State → Then → Play Ending) (why : List ℕ) (old new : Machine) (p : Pace) (v : ℕ) → Goes (fail why old.state (all_back old.stack)) old.state.known v new p
    → f ≡ fail why → v ≤ weight_of old + 2 ^ 250 → RunsAs f command_weight old new p
fault-runs f why old new p v h e l = goes-as f (fail why) old new p v h e l

-- ---- send, close, wait

-- an action that a command begins
abbrev pub doing : Action → After → ℕ → State → Then → Play Ending
doing a after n s k = acting (record { session = n; action = a; after = after }) s k

module _ (args : List (List ℕ)) where
  pub send-of : (id : Option (List ℕ)) (text : List ℕ) → send_words None args ≡ Ok (id, text) → do_send args ≡ (λ s k. on_session is_open id s k (λ n t. send_to n text t k))
  unfolding do_send
  send-of id text e = on_words-read (send_words None args) (id, text) (λ w s k. on_session is_open w.0 s k (λ n t. send_to n w.1 t k)) e

  pub send-fault : (why : List ℕ) → send_words None args ≡ Err why → do_send args ≡ fail why
  unfolding do_send
  send-fault why e = on_words-fault (send_words None args) why (λ w s k. on_session is_open w.0 s k (λ n t. send_to n w.1 t k)) e

  pub close-of : (id : Option (List ℕ)) → id_words (codes "close") None args ≡ Ok id → do_close args ≡ (λ s k. on_session is_open id s k (λ n t. doing action.Close Reported n t k))
  unfolding do_close
  close-of id e = on_words-read (id_words (codes "close") None args) id (λ x s k. on_session is_open x s k (λ n t. doing action.Close Reported n t k)) e

  pub close-fault : (why : List ℕ) → id_words (codes "close") None args ≡ Err why → do_close args ≡ fail why
  unfolding do_close
  close-fault why e = on_words-fault (id_words (codes "close") None args) why (λ x s k. on_session is_open x s k (λ n t. doing action.Close Reported n t k)) e

  pub wait-of : (id : Option (List ℕ)) → id_words (codes "wait") None args ≡ Ok id → do_wait args ≡ (λ s k. on_session can_wait id s k (λ n t. close_and_wait n t k))
  unfolding do_wait
  wait-of id e = on_words-read (id_words (codes "wait") None args) id (λ x s k. on_session can_wait x s k (λ n t. close_and_wait n t k)) e

  pub wait-fault : (why : List ℕ) → id_words (codes "wait") None args ≡ Err why → do_wait args ≡ fail why
  unfolding do_wait
  wait-fault why e = on_words-fault (id_words (codes "wait") None args) why (λ x s k. on_session can_wait x s k (λ n t. close_and_wait n t k)) e

-- ---- spawn

at-most : (a b : ℕ) → a ≤ b → nat_le a b ≡ true
at-most a b h = grind arith

above : (a b : ℕ) → b < a → nat_le a b ≡ false
above a b h = grind arith

below : (a b : ℕ) → a < b → nat_lt a b ≡ true
below a b h = lt-ltb a b h

-- the next session begins
abbrev starting : List (List ℕ) → State → Then → Play Ending
starting words s k =
    perform (suc (length s.sessions.all)) (action.Spawn words) (λ e t more. spawned (suc (length s.sessions.all)) words e t k) depart (with_sessions (with_session s.sessions) s)

module _ (words : List (List ℕ)) (s : State) (k : Then) where
  start-counted : length words ≤ 64
      → start words s k ≡ elim (nat_lt (length s.sessions.all) most_sessions) as (λ _. Play Ending) [ false ↦ fail (codes "too many sessions") s k | true ↦ starting words s k ]
  unfolding start
  start-counted l =
      ap (λ b. elim b as (λ _. Play Ending) [
        | false ↦ fail (codes "too many words") s k
        | true ↦ elim (nat_lt (length s.sessions.all) most_sessions) as (λ _. Play Ending) [ false ↦ fail (codes "too many sessions") s k | true ↦ starting words s k ]
      ]) (at-most (length words) 64 l)

  pub start-long : 64 < length words → start words s k ≡ fail (codes "too many words") s k
  unfolding start
  start-long l =
      ap (λ b. elim b as (λ _. Play Ending) [
        | false ↦ fail (codes "too many words") s k
        | true ↦ elim (nat_lt (length s.sessions.all) most_sessions) as (λ _. Play Ending) [ false ↦ fail (codes "too many sessions") s k | true ↦ starting words s k ]
      ]) (above (length words) 64 l)

  pub start-full : length words ≤ 64 → 64 ≤ length s.sessions.all → start words s k ≡ fail (codes "too many sessions") s k
  start-full l g =
      start-counted l
      ∙ ap (λ b. elim b as (λ _. Play Ending) [ false ↦ fail (codes "too many sessions") s k | true ↦ starting words s k ]) (nat_lt-false (length s.sessions.all) 64 g)

  pub start-begins : length words ≤ 64 → length s.sessions.all < 64 → (n : ℕ) → n ≡ length s.sessions.all + 1
      → start words s k ≡ acting (record { session = n; action = action.Spawn words; after = Spawned words }) (with_sessions (with_session s.sessions) s) k
  start-begins l g n e =
      let same : n ≡ suc (length s.sessions.all) = omega (arith, e) in
      start-counted l
      ∙ ap (λ b. elim b as (λ _. Play Ending) [ false ↦ fail (codes "too many sessions") s k | true ↦ starting words s k ]) (below (length s.sessions.all) 64 g)
      ∙ ap (λ m. acting (record { session = m; action = action.Spawn words; after = Spawned words }) (with_sessions (with_session s.sessions) s) k) (sym same)

-- ---- what an action comes to

module _ (a : Acting) (b : Action) (old mid new : Machine) (running : old.control ≡ Go) where
  -- an entry was passed over
  pub came-passed : Performs a.session a.action b old mid came.Passed → new ≡ record mid { stack = frame.Acting (record a { action = b }) ∷ mid.stack }
      → Comes (acting a old.state (all_back old.stack)) old.state.known (weight_of old + after_weight a.after) new Moved
  unfolding rest go
  came-passed h e =
      let k = all_back old.stack in
      let control : mid.control ≡ Go = ap (λ (x : Machine). x.control) h.3 ∙ running in
      let stack : mid.stack ≡ old.stack = ap (λ (x : Machine). x.stack) h.3 in
      let less : weight Go mid.state old.stack + 2 ^ 64 ≡ weight Go old.state old.stack = weight-uses old.state mid.state Go old.stack h.1 in
      rw (e, control, stack, running)
      (sym (h.0 (told_after a.after a.session k) depart), known-sessions old.state mid.state h.1.same, rw weight-cons (omega (arith, less)))

  -- an entry has answered
  pub came-answered : (e : Entry) (p : Pace) → Performs a.session a.action b old mid (came.Answered e)
      → ((more : Play Ending) → Goes (told_after a.after a.session (all_back mid.stack) e mid.state more) mid.state.known (weight_of mid + after_weight a.after) new p)
      → Comes (acting a old.state (all_back old.stack)) old.state.known (weight_of old + after_weight a.after) new p
  came-answered e p h g =
      let k = all_back old.stack in
      let control : mid.control ≡ old.control = ap (λ (x : Machine). x.control) h.3 in
      let stack : mid.stack ≡ old.stack = ap (λ (x : Machine). x.stack) h.3 in
      let less : weight old.control mid.state old.stack + 2 ^ 64 ≡ weight_of old = weight-uses old.state mid.state old.control old.stack h.1 in
      let same : weight_of mid ≡ weight old.control mid.state old.stack =
      ap (λ (x : Control). weight x mid.state mid.stack) control ∙ ap (λ (fs : List Frame). weight old.control mid.state fs) stack in
      let more = perform a.session b (told_after a.after a.session k) depart mid.state in
      Goes-on p (told_after a.after a.session (all_back mid.stack) e mid.state more) (acting a old.state k) mid.state.known old.state.known (weight_of mid + after_weight a.after)
      (weight_of old + after_weight a.after) new (g more)
      (h.0 (told_after a.after a.session k) depart ∙ ap (λ (fs : List Frame). told_after a.after a.session (all_back fs) e mid.state more) (sym stack))
      (known-sessions old.state mid.state h.1.same) (omega (arith, less, same))

  -- a limit has passed, where none was set
  pub came-late : (w : ℕ) (c : Closing) → Performs a.session a.action b old mid came.Late → depart mid.state ≡ ends_with c mid.state → new ≡ mid
      → Comes (acting a old.state (all_back old.stack)) old.state.known w new (Over c)
  came-late w c h d e =
      rw e (h.0 (told_after a.after a.session (all_back old.stack)) depart ∙ d, known-sessions old.state mid.state h.1.same)

-- ---- what is known of the next entry

pub no-room : (b : Bool) (ss tt : SessionsView) → b ≡ nat_lt ss.used 65536 → ss ≡ tt → b ≡ false → 65536 ≤ tt.used
no-room b ss tt e h f =
    let same : ss.used ≡ tt.used = ap (λ (x : SessionsView). x.used) h in
    grind (arith, same)

pub some-room : (b : Bool) (ss tt : SessionsView) → b ≡ nat_lt ss.used 65536 → ss ≡ tt → b ≡ true → tt.used < 65536
some-room b ss tt e h f =
    let same : ss.used ≡ tt.used = ap (λ (x : SessionsView). x.used) h in
    grind (arith, same)

pub is-no-entry : (x : Answer) → ((e : Entry) → x ≡ answer.Entry e → ⊥) → entry_in x ≡ None
is-no-entry (answer.Entry e) h = absurd (h e refl)
is-no-entry x h = refl

-- ---- the name of a session that has started

module _ (n : ℕ) (old mid new : Machine) where
  -- what is done once `spawn_id` can be used
  abbrev named_then : Then → State → Play Ending
  named_then k t = k Done (codes "0") (assigned (codes "spawn_id") (id_of n) t)

  pub names-ready : (p : Pace) → Readies (codes "spawn_id") old mid None → Goes (named_then (all_back mid.stack) mid.state) mid.state.known (weight_of mid + 2) new p
      → Comes (naming n old.state (all_back old.stack)) old.state.known (weight_of old + 6) new p
  names-ready p h g =
      let stack = ap (λ (x : Machine). x.stack) h.1 in
      let control = ap (λ (x : Machine). x.control) h.1 in
      let state : mid.state ≡ with_begun old.state mid.state = ap (λ (x : Machine). x.state) h.1 in
      let same : weight_of mid ≡ weight_of old = weight-same mid.control old.control mid.state old.state mid.stack old.stack control state stack in
      let enough : weight_of mid + 2 ≤ weight_of old + 6 = omega arith in
      Goes-on p (named_then (all_back mid.stack) mid.state) (naming n old.state (all_back old.stack)) mid.state.known old.state.known (weight_of mid + 2) (weight_of old + 6) new g
      (h.0 (named_then (all_back old.stack)) ∙ ap (λ (fs : List Frame). named_then (all_back fs) mid.state) (sym stack)) (ap (λ (x : Machine). x.state.known) h.1) enough
