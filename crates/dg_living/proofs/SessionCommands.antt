-- The commands on sessions.
use Rattle.std.proofs.Common.{◌≡◌, ℕ, ◌<◌, ◌≤◌, suc, Bool, true, false, List, [], ◌∷◌, length, refl, ap, sym, subst, ◌∙◌, arith}
use Rattle.std.specs.Prelude.{Option, Some, None, Result, Ok, Err, nat_lt, nat_le, codes}
use Rattle.std.proofs.lemmas.Bool.Decides.{nat_tests}
use Rattle.dg_scope.specs.Scopes.{value_of}
use Rattle.dg_transcript.specs.declared.entry.Entry.{Entry}
use Rattle.dg_transcript.specs.declared.entry.Entry.TheVariants as entry
use Rattle.dg_transcript.specs.declared.cursor.Action.TheVariants as action
use Rattle.dg_transcript.specs.Output.{is_failure}
use Rattle.dg_sessions.specs.Views.{SessionView, most_sessions, session_at, id_of}
use Rattle.dg_sessions.specs.Phases.{phase_behind, is_open, has_started, can_wait}
use Rattle.dg_sessions.specs.Steps.{limited}
use Rattle.dg_sessions.specs.declared.phase.Phase.{Phase}
use Rattle.dg_gate.specs.Made.{Made}
use Rattle.dg_language.specs.declared.code.Code.TheVariants.{Done}
use Rattle.dg_language.specs.declared.command.SessionCommand.{SessionCommand}
use Rattle.dg_language.specs.declared.command.SessionCommand.TheVariants.{Spawn, Send, Close, Wait, MatchMax}
use Rattle.dg_language.specs.Play.{Play}
use Rattle.dg_language.specs.State.{State}
use Rattle.dg_language.specs.Evaluation.{Ending, Then}
use Rattle.dg_language.specs.SessionWords.{spawn_words, send_words, id_words, match_words}
use Rattle.dg_language.specs.Sessions.{depart, sought, seek, fit_session, by_id, by_spawn_id, on_session, on_words, spawned, start, do_spawn, unless_failed, send_to, do_send, do_close, wait_value, wait_for, is_session_open, close_and_wait, do_wait, kept_limit, set_limit, later_limit, session_limit, match_limit, do_match_max, do_session}
use Rattle.dg_living.proofs.Admitting.{Place, running, ended, PhaseAt}
use Rattle.dg_living.proofs.ElementLengths.{IsShort, AreShort}
use Rattle.dg_living.proofs.Holding.{Same}
use Rattle.dg_living.proofs.Changes.{assigned-same, changed-same, later-same, limited-quiet}
use Rattle.dg_living.proofs.SessionWords.{Fit, fit-found, spawn-some, send-short, open-phase, waits-at}
use Rattle.dg_living.proofs.Steps.{Lives, completes, along, either, either_known, on-known, fail-lives}
use Rattle.dg_living.proofs.VariableCommands.{touch-lives}
use Rattle.dg_living.proofs.Performing.{perform-lives, spawn-lives}

pub seek-lives : (n : List ℕ) (s : State) {f : Option (List ℕ) → State → Then → Play Ending}
    → ((o : Option (List ℕ)) (u : State) → u.sessions ≡ s.sessions → Lives u (f o u)) → Lives s (λ k. seek n s (λ o u. f o u k))
unfolding seek
seek-lives n s more = touch-lives (sought n s) s (λ u same. more (value_of u.variables (sought n s)) u same)

by_id-lives : (fit : Phase → Bool) (id : List ℕ) (s : State) {f : ℕ → State → Then → Play Ending}
    → ((n : ℕ) (u : State) → Fit fit n u.sessions → Lives u (f n u)) → Lives s (λ k. by_id fit id s k (λ n u. f n u k))
by_id-lives fit id s more =
    on-known (fit_session fit id s.sessions) (fail-lives _ s) (λ n found. more n s (fit-found fit id s.sessions n found))

by_spawn_id-lives : (fit : Phase → Bool) (id : Option (List ℕ)) (s : State) {f : ℕ → State → Then → Play Ending}
    → ((n : ℕ) (u : State) → Fit fit n u.sessions → Lives u (f n u)) → Lives s (λ k. by_spawn_id fit id s k (λ n u. f n u k))
by_spawn_id-lives fit None s more = fail-lives _ s
by_spawn_id-lives fit (Some id) s more = by_id-lives fit id s more

pub on_session-lives : (fit : Phase → Bool) (id : Option (List ℕ)) (s : State) {f : ℕ → State → Then → Play Ending}
    → ((n : ℕ) (u : State) → Fit fit n u.sessions → Lives u (f n u)) → Lives s (λ k. on_session fit id s k (λ n u. f n u k))
unfolding on_session
on_session-lives fit (Some id) s more = by_id-lives fit id s more
on_session-lives fit None s more = seek-lives (codes "spawn_id") s (λ id u _. by_spawn_id-lives fit id u more)

pub on_words-lives : {A : Type 0} (r : Result A (List ℕ)) (s : State) {f : A → Then → Play Ending}
    → ((a : A) → r ≡ Ok a → Lives s (f a)) → Lives s (λ k. on_words r s k (λ a. f a k))
on_words-lives (Err why) s more = fail-lives why s
on_words-lives (Ok a) s more = more a refl

spawned-lives : (n : ℕ) (words : List (List ℕ)) (e : Entry) (s : State) → Lives s (spawned n words e s)
unfolding spawned
spawned-lives n words e s =
    either (is_failure e) (fail-lives _ s)
    (touch-lives (codes "spawn_id") s (λ t _. along (assigned-same (codes "spawn_id") (id_of n) t) (completes Done (codes "0") _)))

no_more : (n m : ℕ) → nat_le n m ≡ true → n ≤ m
no_more n m e = grind (arith, nat_tests)

fewer : (n m : ℕ) → nat_lt n m ≡ true → n < m
fewer n m e = grind (arith, nat_tests)

start-lives : (words : List (List ℕ)) (s : State) → 0 < length words → Lives s (start words s)
unfolding start
start-lives words s some =
    either_known (nat_le (length words) 64)
    (λ few_words.
    either_known (nat_lt (length s.sessions.all) most_sessions)
    (λ few.
    spawn-lives words (some, no_more (length words) 64 few_words) s (fewer (length s.sessions.all) most_sessions few)
    (spawned (suc (length s.sessions.all)) words) (spawned-lives (suc (length s.sessions.all)) words))
    (λ _. fail-lives _ s))
    (λ _. fail-lives _ s)

do_spawn-lives : (args : List (List ℕ)) (s : State) → Lives s (do_spawn args s)
unfolding do_spawn
do_spawn-lives args s = on_words-lives (spawn_words args) s (λ words is. start-lives words s (spawn-some args words is))

unless_failed-lives : (n : ℕ) (e : Entry) (s : State) → Lives s (unless_failed n e s)
unless_failed-lives n e s = either (is_failure e) (fail-lives _ s) (completes Done [] s)

-- where an open session stands
pub at_open : (p : Phase) (q : Place) → is_open p ≡ true → PhaseAt p q → q ≡ running
at_open p q is_so at = subst (λ x. PhaseAt x q) (open-phase p is_so) at

send_to-lives : (n : ℕ) (text : List ℕ) (s : State) → IsShort text → Fit is_open n s.sessions → Lives s (send_to n text s)
unfolding send_to
send_to-lives n [] s short fit = completes Done [] s
send_to-lives n (b ∷ bs) s short fit =
    perform-lives (λ e t k m. unless_failed n e t k) (λ t k. depart t) n fit.view.phase fit.number (λ e. Unit {0})
    (λ e u w told there phase more goes_on. unless_failed-lives n e u)
    (action.Send (b ∷ bs)) s fit.view fit.there refl (λ q at. (open-phase fit.view.phase fit.fits, at_open fit.view.phase q fit.fits at))
    (omega arith, short) (λ e made. tt) (λ reads e. tt) (λ reads u. absurd reads)

do_send-lives : (args : List (List ℕ)) (s : State) → AreShort args → Lives s (do_send args s)
unfolding do_send
do_send-lives args s short =
    on_words-lives (send_words None args) s (λ w is. on_session-lives is_open w.0 s (λ n t fit.
    send_to-lives n w.1 t (send-short None args w is short) fit))

do_close-lives : (args : List (List ℕ)) (s : State) → Lives s (do_close args s)
unfolding do_close
do_close-lives args s =
    on_words-lives (id_words (codes "close") None args) s (λ id _. on_session-lives is_open id s (λ n t fit.
    perform-lives (λ e u k m. unless_failed n e u k) (λ u k. depart u) n fit.view.phase fit.number (λ e. Unit {0})
    (λ e u w told there phase more goes_on. unless_failed-lives n e u)
    action.Close t fit.view fit.there refl (λ q at. at_open fit.view.phase q fit.fits at) tt (λ e made. tt) (λ reads e. tt) (λ reads u. absurd reads)))

wait_for-lives : (n : ℕ) (s : State) (v : SessionView) → 1 ≤ n → session_at n s.sessions ≡ Some v
    → ((q : Place) → PhaseAt v.phase q → q ≡ ended) → Lives s (wait_for n s)
unfolding wait_for
wait_for-lives n s v number there at_end =
    perform-lives (λ e t k m. k Done (wait_value n e) t) (λ t k. depart t) n v.phase number (λ e. Unit {0})
    (λ e u w told there phase more goes_on. completes Done (wait_value n e) u)
    action.Wait s v there refl at_end tt (λ e made. tt) (λ reads e. tt) (λ reads u. absurd reads)

-- a session that was closed stands at its end
behind_close : (e : Entry) (p x : Phase) (q : Place) → Made action.Close e → x ≡ phase_behind e p → PhaseAt x q → q ≡ ended
behind_close e p x q made is at = go e made (subst (λ y. PhaseAt y q) is at)
  where
    go : (e : Entry) → Made action.Close e → PhaseAt (phase_behind e p) q → q ≡ ended
    go entry.Closed made at = at
    go (entry.NoClose code) made at = at
    go e made at = absurd made

close_and_wait-lives : (n : ℕ) (s : State) → Fit can_wait n s.sessions → Lives s (close_and_wait n s)
unfolding close_and_wait
close_and_wait-lives n s fit =
    either_known (is_session_open (session_at n s.sessions))
    (λ is_so.
    let is : is_open fit.view.phase ≡ true = ap is_session_open (sym fit.there) ∙ is_so in
    perform-lives (λ e t k m. wait_for n t k) (λ t k. depart t) n fit.view.phase fit.number (Made action.Close)
    (λ e u w told there phase more goes_on. wait_for-lives n u w fit.number there (λ q at. behind_close e fit.view.phase w.phase q told phase at))
    action.Close s fit.view fit.there refl (λ q at. at_open fit.view.phase q is at) tt (λ e made. made) (λ reads e. absurd reads) (λ reads u. absurd reads))
    (λ closed. wait_for-lives n s fit.view fit.number fit.there (λ q at. waits-at fit.view.phase q fit.fits (ap is_session_open (sym fit.there) ∙ closed) at))

do_wait-lives : (args : List (List ℕ)) (s : State) → Lives s (do_wait args s)
unfolding do_wait
do_wait-lives args s =
    on_words-lives (id_words (codes "wait") None args) s (λ id _. on_session-lives can_wait id s (λ n t fit. close_and_wait-lives n t fit))

set_limit-lives : (n : Option ℕ) (s : State) (set : ℕ → State) → ((m : ℕ) → Same s (set m)) → Lives s (λ k. set_limit n s k set)
set_limit-lives None s set same = fail-lives _ s
set_limit-lives (Some n) s set same = along (same n) (completes Done [] (set n))

later_limit-lives : (text : Option (List ℕ)) (s : State) → Lives s (later_limit text s)
unfolding later_limit
later_limit-lives None s = completes Done _ s
later_limit-lives (Some text) s = set_limit-lives (kept_limit text) s _ (λ m. later-same m s)

session_limit-lives : (n : ℕ) (text : Option (List ℕ)) (s : State) → Lives s (session_limit n text s)
unfolding session_limit
session_limit-lives n None s = completes Done _ s
session_limit-lives n (Some text) s = set_limit-lives (kept_limit text) s _ (λ m. changed-same n (limited m) s (limited-quiet m))

match_limit-lives : (later : Bool) (text : Option (List ℕ)) (s : State) → Lives s (match_limit later text s)
match_limit-lives true text s = later_limit-lives text s
match_limit-lives false text s = on_session-lives has_started None s (λ n t fit. session_limit-lives n text t)

do_match_max-lives : (args : List (List ℕ)) (s : State) → Lives s (do_match_max args s)
unfolding do_match_max
do_match_max-lives args s = on_words-lives (match_words false args) s (λ w _. match_limit-lives w.0 w.1 s)

pub do_session-lives : (c : SessionCommand) (args : List (List ℕ)) (s : State) → AreShort args → Lives s (do_session c args s)
do_session-lives Spawn args s short = do_spawn-lives args s
do_session-lives Send args s short = do_send-lives args s short
do_session-lives Close args s short = do_close-lives args s
do_session-lives Wait args s short = do_wait-lives args s
do_session-lives MatchMax args s short = do_match_max-lives args s
