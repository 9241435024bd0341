-- What an action on a session comes to, and the commands on sessions.
use Rattle.std.proofs.Common.{ℕ, ◌-◌, suc, zero, Bool, true, false, List, [], ◌∷◌, length}
use Rattle.std.specs.Prelude.{Option, Some, None, Result, Ok, Err, nat_lt, nat_le, codes}
use Rattle.dg_scope.specs.Scopes.{value_of}
use Rattle.dg_transcript.specs.declared.entry.Entry.{Entry}
use Rattle.dg_transcript.specs.declared.cursor.Act.{Act}
use Rattle.dg_transcript.specs.declared.cursor.Act.TheVariants as act
use Rattle.dg_transcript.specs.declared.cursor.Action.{Action}
use Rattle.dg_transcript.specs.declared.cursor.Action.TheVariants as action
use Rattle.dg_transcript.specs.Output.{is_failure}
use Rattle.dg_sessions.specs.Views.{most_entries, most_sessions, session_at}
use Rattle.dg_sessions.specs.Phases.{is_open, has_started, can_wait}
use Rattle.dg_sessions.specs.Steps.{step_of}
use Rattle.dg_sessions.specs.declared.phase.Phase.{Phase}
use Rattle.dg_world.specs.declared.question.Answer.{Answer}
use Rattle.dg_language.specs.declared.ask.Ask.{Ask}
use Rattle.dg_language.specs.declared.code.Code.TheVariants.{Done}
use Rattle.dg_language.specs.declared.command.SessionCommand.{SessionCommand}
use Rattle.dg_language.specs.declared.command.SessionCommand.TheVariants.{Spawn, Send, Close, Wait, MatchMax}
use Rattle.dg_language.specs.Play.{Play, lookup}
use Rattle.dg_language.specs.State.{State, learn}
use Rattle.dg_language.specs.Evaluation.{Ending, Then}
use Rattle.dg_language.specs.SessionWords.{spawn_words, send_words, id_words, match_words}
use Rattle.dg_language.specs.Sessions.{depart, departed_from, entry_for, hear_for, ask_for, entry_in, come_to, at_entry, performing, perform, sought, seek, fit_session, by_id, by_spawn_id, on_session, on_words, spawned, start, do_spawn, unless_failed, send_to, do_send, do_close, wait_value, wait_for, is_session_open, close_and_wait, do_wait, kept_limit, set_limit, later_limit, session_limit, match_limit, do_match_max, do_session}
use Rattle.dg_laws.specs.Grafting.{Grafted}
use Rattle.dg_laws.proofs.Steps.{completes, stops, asks, cut-grafted, either, on-grafted, fail-grafted}
use Rattle.dg_laws.proofs.VariableCommands.{touch-grafted}

pub depart-grafted : (s : State) → Grafted (λ k. depart s)
unfolding depart
depart-grafted s = stops (departed_from s)

pub ask_for-grafted : (q : Ask) (s : State) {f : Answer → State → Then → Play Ending}
    → ((a : Answer) (s' : State) → Grafted (f a s')) → Grafted (λ k. ask_for q s (λ a s'. f a s' k))
unfolding ask_for
ask_for-grafted q s {f} more = heard (lookup q.question s.known)
  where
    heard : (o : Option Answer) → Grafted (λ k. hear_for o q s (λ a s'. f a s' k))
    heard (Some a) = more a s
    heard None = asks q (λ a. more a (learn q.question a s))

module _ (told : Entry → State → Then → Play Ending → Play Ending) (late : State → Then → Play Ending)
    (tells : (e : Entry) (t : State) (more : Then → Play Ending) → Grafted more → Grafted (λ k. told e t k (more k)))
    (passes : (t : State) → Grafted (late t)) where
  come_to-grafted : (x : Act) (e : Entry) (s : State) (more : Then → Play Ending) → Grafted more
      → Grafted (λ k. come_to x e (λ f t m. told f t k m) (λ t. late t k) s (more k))
  come_to-grafted act.Answered e s more g = tells e s more g
  come_to-grafted (act.Wants n) e s more g = g
  come_to-grafted act.TimedOut e s more g = passes s
  come_to-grafted act.Departed e s more g = depart-grafted s

  performing-grafted : (r n : ℕ) (a : Action) (s : State) → Grafted (λ k. performing r n a (λ f t m. told f t k m) (λ t. late t k) s)
  unfolding performing
  performing-grafted zero n a s = cut-grafted _ s
  performing-grafted (suc r) n a s =
      on-grafted (session_at n s.sessions) (depart-grafted s) (λ v.
      ask_for-grafted (entry_for n v a s) s (λ heard t.
      on-grafted (entry_in heard) (depart-grafted t) (λ e.
      come_to-grafted (step_of v a e).act e (at_entry n a e t) (λ k. performing r n (step_of v a e).action (λ f t m. told f t k m) (λ t. late t k) (at_entry n a e t))
      (performing-grafted r n (step_of v a e).action (at_entry n a e t)))))

  pub perform-grafted : (n : ℕ) (a : Action) (s : State) → Grafted (λ k. perform n a (λ f t m. told f t k m) (λ t. late t k) s)
  unfolding perform
  perform-grafted n a s = performing-grafted (most_entries - s.sessions.used) n a s

pub seek-grafted : (n : List ℕ) (s : State) {f : Option (List ℕ) → State → Then → Play Ending}
    → ((o : Option (List ℕ)) (t : State) → Grafted (f o t)) → Grafted (λ k. seek n s (λ o t. f o t k))
unfolding seek
seek-grafted n s more = touch-grafted (sought n s) s (λ t. more (value_of t.variables (sought n s)) t)

by_id-grafted : (fit : Phase → Bool) (id : List ℕ) (s : State) {f : ℕ → State → Then → Play Ending}
    → ((n : ℕ) (t : State) → Grafted (f n t)) → Grafted (λ k. by_id fit id s k (λ n t. f n t k))
by_id-grafted fit id s more = on-grafted (fit_session fit id s.sessions) (fail-grafted _ s) (λ n. more n s)

by_spawn_id-grafted : (fit : Phase → Bool) (id : Option (List ℕ)) (s : State) {f : ℕ → State → Then → Play Ending}
    → ((n : ℕ) (t : State) → Grafted (f n t)) → Grafted (λ k. by_spawn_id fit id s k (λ n t. f n t k))
by_spawn_id-grafted fit None s more = fail-grafted _ s
by_spawn_id-grafted fit (Some id) s more = by_id-grafted fit id s more

pub on_session-grafted : (fit : Phase → Bool) (id : Option (List ℕ)) (s : State) {f : ℕ → State → Then → Play Ending}
    → ((n : ℕ) (t : State) → Grafted (f n t)) → Grafted (λ k. on_session fit id s k (λ n t. f n t k))
unfolding on_session
on_session-grafted fit (Some id) s more = by_id-grafted fit id s more
on_session-grafted fit None s more = seek-grafted (codes "spawn_id") s (λ id t. by_spawn_id-grafted fit id t more)

pub on_words-grafted : {A : Type 0} (r : Result A (List ℕ)) (s : State) {f : A → Then → Play Ending}
    → ((a : A) → Grafted (f a)) → Grafted (λ k. on_words r s k (λ a. f a k))
on_words-grafted (Err why) s more = fail-grafted why s
on_words-grafted (Ok a) s more = more a

spawned-grafted : (n : ℕ) (words : List (List ℕ)) (e : Entry) (s : State) → Grafted (spawned n words e s)
unfolding spawned
spawned-grafted n words e s =
    either (is_failure e) (fail-grafted _ s) (touch-grafted (codes "spawn_id") s (λ t. completes Done (codes "0") _))

start-grafted : (words : List (List ℕ)) (s : State) → Grafted (start words s)
unfolding start
start-grafted words s =
    either (nat_le (length words) 64)
    (either (nat_lt (length s.sessions.all) most_sessions)
    (perform-grafted (λ e t k m. spawned (suc (length s.sessions.all)) words e t k) (λ t k. depart t)
    (λ e t m g. spawned-grafted (suc (length s.sessions.all)) words e t) depart-grafted (suc (length s.sessions.all)) (action.Spawn words) _)
    (fail-grafted _ s))
    (fail-grafted _ s)

do_spawn-grafted : (args : List (List ℕ)) (s : State) → Grafted (do_spawn args s)
unfolding do_spawn
do_spawn-grafted args s = on_words-grafted (spawn_words args) s (λ words. start-grafted words s)

unless_failed-grafted : (n : ℕ) (e : Entry) (s : State) → Grafted (unless_failed n e s)
unless_failed-grafted n e s = either (is_failure e) (fail-grafted _ s) (completes Done [] s)

send_to-grafted : (n : ℕ) (text : List ℕ) (s : State) → Grafted (send_to n text s)
unfolding send_to
send_to-grafted n [] s = completes Done [] s
send_to-grafted n (b ∷ bs) s =
    perform-grafted (λ e t k m. unless_failed n e t k) (λ t k. depart t) (λ e t m g. unless_failed-grafted n e t) depart-grafted n (action.Send (b ∷ bs)) s

do_send-grafted : (args : List (List ℕ)) (s : State) → Grafted (do_send args s)
unfolding do_send
do_send-grafted args s =
    on_words-grafted (send_words None args) s (λ w. on_session-grafted is_open w.0 s (λ n t. send_to-grafted n w.1 t))

do_close-grafted : (args : List (List ℕ)) (s : State) → Grafted (do_close args s)
unfolding do_close
do_close-grafted args s =
    on_words-grafted (id_words (codes "close") None args) s (λ id. on_session-grafted is_open id s (λ n t.
    perform-grafted (λ e u k m. unless_failed n e u k) (λ u k. depart u) (λ e u m g. unless_failed-grafted n e u) depart-grafted n action.Close t))

wait_for-grafted : (n : ℕ) (s : State) → Grafted (wait_for n s)
unfolding wait_for
wait_for-grafted n s =
    perform-grafted (λ e t k m. k Done (wait_value n e) t) (λ t k. depart t) (λ e t m g. completes Done (wait_value n e) t) depart-grafted n action.Wait s

close_and_wait-grafted : (n : ℕ) (s : State) → Grafted (close_and_wait n s)
unfolding close_and_wait
close_and_wait-grafted n s =
    either (is_session_open (session_at n s.sessions))
    (perform-grafted (λ e t k m. wait_for n t k) (λ t k. depart t) (λ e t m g. wait_for-grafted n t) depart-grafted n action.Close s)
    (wait_for-grafted n s)

do_wait-grafted : (args : List (List ℕ)) (s : State) → Grafted (do_wait args s)
unfolding do_wait
do_wait-grafted args s =
    on_words-grafted (id_words (codes "wait") None args) s (λ id. on_session-grafted can_wait id s (λ n t. close_and_wait-grafted n t))

set_limit-grafted : (n : Option ℕ) (s : State) (set : ℕ → State) → Grafted (λ k. set_limit n s k set)
set_limit-grafted None s set = fail-grafted _ s
set_limit-grafted (Some n) s set = completes Done [] (set n)

later_limit-grafted : (text : Option (List ℕ)) (s : State) → Grafted (later_limit text s)
unfolding later_limit
later_limit-grafted None s = completes Done _ s
later_limit-grafted (Some text) s = set_limit-grafted (kept_limit text) s _

session_limit-grafted : (n : ℕ) (text : Option (List ℕ)) (s : State) → Grafted (session_limit n text s)
unfolding session_limit
session_limit-grafted n None s = completes Done _ s
session_limit-grafted n (Some text) s = set_limit-grafted (kept_limit text) s _

match_limit-grafted : (later : Bool) (text : Option (List ℕ)) (s : State) → Grafted (match_limit later text s)
match_limit-grafted true text s = later_limit-grafted text s
match_limit-grafted false text s = on_session-grafted has_started None s (λ n t. session_limit-grafted n text t)

do_match_max-grafted : (args : List (List ℕ)) (s : State) → Grafted (do_match_max args s)
unfolding do_match_max
do_match_max-grafted args s = on_words-grafted (match_words false args) s (λ w. match_limit-grafted w.0 w.1 s)

pub do_session-grafted : (c : SessionCommand) (args : List (List ℕ)) (s : State) → Grafted (do_session c args s)
do_session-grafted Spawn args s = do_spawn-grafted args s
do_session-grafted Send args s = do_send-grafted args s
do_session-grafted Close args s = do_close-grafted args s
do_session-grafted Wait args s = do_wait-grafted args s
do_session-grafted MatchMax args s = do_match_max-grafted args s
