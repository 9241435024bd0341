-- What an action on a session comes to, entry after entry of its record, and the commands spawn, send, close, wait and
-- match_max, by expect(1).
use Rattle.std.specs.Prelude.{ℕ, ℤ, pos, zero, suc, ◌-◌, Bool, true, false, ◌&&◌, not, nat_lt, nat_le, Option, Some, None, is_some, List, [], ◌∷◌, ◌++◌, length, codes, decimal, Result, Ok, Err}
use Rattle.dg_expr.specs.Number.{number_of}
use Rattle.dg_scope.specs.Scopes.{value_of}
use Rattle.dg_transcript.specs.declared.entry.Entry.{Entry}
use Rattle.dg_transcript.specs.declared.entry.Entry.TheVariants as entry
use Rattle.dg_transcript.specs.declared.cursor.Act.{Act}
use Rattle.dg_transcript.specs.declared.cursor.Act.TheVariants as act
use Rattle.dg_transcript.specs.declared.cursor.Action.{Action}
use Rattle.dg_transcript.specs.declared.cursor.Action.TheVariants as action
use Rattle.dg_transcript.specs.Output.{is_failure}
use Rattle.dg_transcript.specs.Text.{code_number}
use Rattle.dg_sessions.specs.Views.{SessionView, SessionsView, most_entries, most_kept, most_sessions, id_of, session_at, named}
use Rattle.dg_sessions.specs.Phases.{is_open, has_started, can_wait}
use Rattle.dg_sessions.specs.Steps.{step_of, with_session, all_acted, changed, limited}
use Rattle.dg_sessions.specs.declared.phase.Phase.{Phase}
use Rattle.dg_world.specs.declared.question.Question.TheVariants as question
use Rattle.dg_world.specs.declared.question.Answer.{Answer}
use Rattle.dg_world.specs.declared.question.Answer.TheVariants as answer
use Rattle.dg_results.specs.Lines.{lines_of, depart_lines}
use Rattle.dg_language.specs.declared.ask.Ask.{Ask}
use Rattle.dg_language.specs.declared.close.Close.TheVariants.{Departed}
use Rattle.dg_language.specs.declared.code.Code.TheVariants.{Done}
use Rattle.dg_language.specs.declared.command.SessionCommand.{SessionCommand}
use Rattle.dg_language.specs.declared.command.SessionCommand.TheVariants.{Spawn, Send, Close, Wait, MatchMax}
use Rattle.dg_language.specs.Play.{Play, Ends, Asks, lookup}
use Rattle.dg_language.specs.State.{State, learn, assigned, with_sessions}
use Rattle.dg_language.specs.Evaluation.{Ending, Then, closed, cut, fail, quoted}
use Rattle.dg_language.specs.Arguments.{on}
use Rattle.dg_language.specs.Variables.{touch, cannot_read}
use Rattle.dg_language.specs.SessionWords.{spawn_words, send_words, id_words, match_words}
use Rattle.dg_transcript.specs.declared.limits.TheConstants.{MAX_WORDS}

-- ---- departures

-- the lines so far, and that a child did not do what was asked of it
unfoldable pub departed_from : State → Ending
departed_from s = closed (lines_of s.calls ++ depart_lines s.test.script) Departed s

-- a departure from the transcript ends the whole test, whatever stands around
unfoldable pub depart : State → Play Ending
depart s = Ends (departed_from s)

-- ---- an action

-- the next entry of a session, for an action
abbrev pub entry_for : ℕ → SessionView → Action → State → Ask
entry_for n v a s = record { question = question.Entry (record { test = s.test; session = n; place = v.cursor.place }); action = Some a }

-- an entry that was told is not asked for again
abbrev pub hear_for : Option Answer → Ask → State → (Answer → State → Play Ending) → Play Ending
hear_for (Some a) q s k = k a s
hear_for None q s k = Asks q (λ a. k a (learn q.question a s))

unfoldable pub ask_for : Ask → State → (Answer → State → Play Ending) → Play Ending
ask_for q s k = hear_for (lookup q.question s.known) q s k

abbrev pub entry_in : Answer → Option Entry
entry_in (answer.Entry e) = Some e
entry_in _ = None

-- what is done with the entry that has answered; last comes the same action once more, with what is left of its limit
abbrev pub Told : Type 0
Told = Entry → State → Play Ending → Play Ending

-- what is done when a limit has passed
abbrev pub Late : Type 0
Late = State → Play Ending

-- what an action comes to at an entry, once the session has come to it, where `more` is what it comes to at those behind
abbrev pub come_to : Act → Entry → Told → Late → State → Play Ending → Play Ending
come_to act.Answered e told late s more = told e s more
come_to (act.Wants k) e told late s more = more
come_to act.TimedOut e told late s more = late s
come_to act.Departed e told late s more = depart s

-- the session has come to an entry
abbrev pub at_entry : ℕ → Action → Entry → State → State
at_entry n a e s = with_sessions (all_acted n a e s.sessions) s

-- What an action on session n comes to, where r entries may still be used up. The end of the record departs.
unfoldable pub performing : ℕ → ℕ → Action → Told → Late → State → Play Ending
performing zero n a told late s = cut (codes "too many transcript entries") s
performing (suc r) n a told late s =
    on (session_at n s.sessions) (depart s) (λ v. ask_for (entry_for n v a s) s (λ heard t.
    on (entry_in heard) (depart t) (λ e.
    come_to (step_of v a e).act e told late (at_entry n a e t) (performing r n (step_of v a e).action told late (at_entry n a e t)))))

-- What an action on a session comes to: 65,536 entries may be used up over all sessions.
unfoldable pub perform : ℕ → Action → Told → Late → State → Play Ending
perform n a told late s = performing (most_entries - s.sessions.used) n a told late s

-- ---- the session of a command

abbrev pub not_open : List ℕ → List ℕ
not_open id = codes "spawn id " ++ (id ++ codes " not open")

-- The name by which a variable is read that is sought locally, then globally.
abbrev pub sought : List ℕ → State → List ℕ
sought n s = elim (is_some (value_of s.variables n)) [ true ↦ n | false ↦ codes "::" ++ n ]

unfoldable pub seek : List ℕ → State → (Option (List ℕ) → State → Play Ending) → Play Ending
seek n s k = touch (sought n s) s (λ t. k (value_of t.variables (sought n s)) t)

abbrev pub if_fit : (Phase → Bool) → ℕ → Option SessionView → Option ℕ
if_fit fit n None = None
if_fit fit n (Some v) = elim (fit v.phase) [ true ↦ Some n | false ↦ None ]

abbrev pub fit_number : (Phase → Bool) → SessionsView → Option ℕ → Option ℕ
fit_number fit ss None = None
fit_number fit ss (Some n) = if_fit fit n (session_at n ss)

-- the number of the session of a name, if that is fit for a call
abbrev pub fit_session : (Phase → Bool) → List ℕ → SessionsView → Option ℕ
fit_session fit id ss = fit_number fit ss (named id ss)

abbrev pub by_id : (Phase → Bool) → List ℕ → State → Then → (ℕ → State → Play Ending) → Play Ending
by_id fit id s k f = on (fit_session fit id s.sessions) (fail (not_open id) s k) (λ n. f n s)

abbrev pub by_spawn_id : (Phase → Bool) → Option (List ℕ) → State → Then → (ℕ → State → Play Ending) → Play Ending
by_spawn_id fit None s k f = fail (cannot_read (codes "spawn_id")) s k
by_spawn_id fit (Some id) s k f = by_id fit id s k f

-- the session that a flag names, or else the one of `spawn_id`
unfoldable pub on_session : (Phase → Bool) → Option (List ℕ) → State → Then → (ℕ → State → Play Ending) → Play Ending
on_session fit (Some id) s k f = by_id fit id s k f
on_session fit None s k f = seek (codes "spawn_id") s (λ id t. by_spawn_id fit id t k f)

abbrev pub on_words : {A : Type 0} → Result A (List ℕ) → State → Then → (A → Play Ending) → Play Ending
on_words (Err why) s k f = fail why s k
on_words (Ok a) s k f = f a

-- ---- spawn

abbrev pub program_of : List (List ℕ) → List ℕ
program_of [] = []
program_of (w ∷ ws) = w

abbrev pub cannot_execute : List ℕ → List ℕ
cannot_execute program = codes "couldn't execute " ++ quoted program

-- `spawn` once its start was told: a session that has started is the one of `spawn_id`
unfoldable pub spawned : ℕ → List (List ℕ) → Entry → State → Then → Play Ending
spawned n words e s k =
    elim (is_failure e) [
      | true ↦ fail (cannot_execute (program_of words)) s k
      | false ↦ touch (codes "spawn_id") s (λ t. k Done (codes "0") (assigned (codes "spawn_id") (id_of n) t))
    ]

-- the next session is started by these words; one that fails to start has used its number
unfoldable pub start : List (List ℕ) → State → Then → Play Ending
start words s k =
    elim (nat_le (length words) MAX_WORDS) [
      | false ↦ fail (codes "too many words") s k
      | true ↦ elim (nat_lt (length s.sessions.all) most_sessions) [
        | false ↦ fail (codes "too many sessions") s k
        | true ↦
            perform (suc (length s.sessions.all)) (action.Spawn words) (λ e t more. spawned (suc (length s.sessions.all)) words e t k) depart
            (with_sessions (with_session s.sessions) s)
      ]
    ]

unfoldable pub do_spawn : List (List ℕ) → State → Then → Play Ending
do_spawn args s k = on_words (spawn_words args) s k (λ words. start words s k)

-- ---- send, close

-- what comes after an entry: a call that failed is an error
abbrev pub unless_failed : ℕ → Entry → State → Then → Play Ending
unless_failed n e s k = elim (is_failure e) [ true ↦ fail (not_open (id_of n)) s k | false ↦ k Done [] s ]

-- an empty text asks nothing of the child
unfoldable pub send_to : ℕ → List ℕ → State → Then → Play Ending
send_to n [] s k = k Done [] s
send_to n (b ∷ bs) s k = perform n (action.Send (b ∷ bs)) (λ e t more. unless_failed n e t k) depart s

unfoldable pub do_send : List (List ℕ) → State → Then → Play Ending
do_send args s k =
    on_words (send_words None args) s k (λ w. on_session is_open w.0 s k (λ n t. send_to n w.1 t k))

unfoldable pub do_close : List (List ℕ) → State → Then → Play Ending
do_close args s k =
    on_words (id_words (codes "close") None args) s k (λ id. on_session is_open id s k (λ n t.
    perform n action.Close (λ e u more. unless_failed n e u k) depart t))

-- ---- wait

-- how a child ended, behind its session's name
abbrev pub end_text : Entry → List ℕ
end_text (entry.Exited status) = codes " 0 " ++ decimal status
end_text (entry.Killed signal) = codes " 0 0 CHILDKILLED SIG" ++ (decimal signal ++ codes " signal")
end_text (entry.NoWait code) = codes " -1 " ++ decimal (code_number code)
end_text e = []

-- the value of `wait`
abbrev pub wait_value : ℕ → Entry → List ℕ
wait_value n e = codes "0 " ++ (id_of n ++ end_text e)

-- the child is waited for
unfoldable pub wait_for : ℕ → State → Then → Play Ending
wait_for n s k = perform n action.Wait (λ e t more. k Done (wait_value n e) t) depart s

abbrev pub is_session_open : Option SessionView → Bool
is_session_open None = false
is_session_open (Some v) = is_open v.phase

-- a session that is open is closed first, and that this failed is passed over
unfoldable pub close_and_wait : ℕ → State → Then → Play Ending
close_and_wait n s k =
    elim (is_session_open (session_at n s.sessions)) [
      | true ↦ perform n action.Close (λ e t more. wait_for n t k) depart s
      | false ↦ wait_for n s k
    ]

unfoldable pub do_wait : List (List ℕ) → State → Then → Play Ending
do_wait args s k =
    on_words (id_words (codes "wait") None args) s k (λ id. on_session can_wait id s k (λ n t. close_and_wait n t k))

-- ---- match_max

abbrev pub limit_in_range : ℕ → Option ℕ
limit_in_range n = elim (nat_lt 0 n && nat_le n most_kept) [ true ↦ Some n | false ↦ None ]

abbrev pub limit_of_number : Option ℤ → Option ℕ
limit_of_number (Some (pos n)) = limit_in_range n
limit_of_number _ = None

-- a limit is a number from 1 to 65,536
unfoldable pub kept_limit : List ℕ → Option ℕ
kept_limit text = limit_of_number (number_of text)

abbrev pub set_limit : Option ℕ → State → Then → (ℕ → State) → Play Ending
set_limit None s k set = fail (codes "bad match_max") s k
set_limit (Some n) s k set = k Done [] (set n)

abbrev pub max_at : Option SessionView → ℕ
max_at None = 0
max_at (Some v) = v.max

-- the limit of later sessions is read or set
unfoldable pub later_limit : Option (List ℕ) → State → Then → Play Ending
later_limit None s k = k Done (decimal s.sessions.max) s
later_limit (Some text) s k = set_limit (kept_limit text) s k (λ n. with_sessions (record s.sessions { max = n }) s)

-- the limit of a session is read or set
unfoldable pub session_limit : ℕ → Option (List ℕ) → State → Then → Play Ending
session_limit n None s k = k Done (decimal (max_at (session_at n s.sessions))) s
session_limit n (Some text) s k = set_limit (kept_limit text) s k (λ max. with_sessions (changed n (limited max) s.sessions) s)

abbrev pub match_limit : Bool → Option (List ℕ) → State → Then → Play Ending
match_limit true text s k = later_limit text s k
match_limit false text s k = on_session has_started None s k (λ n t. session_limit n text t k)

unfoldable pub do_match_max : List (List ℕ) → State → Then → Play Ending
do_match_max args s k = on_words (match_words false args) s k (λ w. match_limit w.0 w.1 s k)

-- a command on a session
abbrev pub do_session : SessionCommand → List (List ℕ) → State → Then → Play Ending
do_session Spawn args s k = do_spawn args s k
do_session Send args s k = do_send args s k
do_session Close args s k = do_close args s k
do_session Wait args s k = do_wait args s k
do_session MatchMax args s k = do_match_max args s k
