-- What an entry does to its session.
use Rattle.std.specs.Prelude.{ℕ, ◌+◌, ◌-◌, List, [], ◌∷◌, ◌++◌, length, drop, slice_set, Option, Some, None}
use Rattle.dg_transcript.specs.declared.entry.Entry.{Entry}
use Rattle.dg_transcript.specs.declared.cursor.Act.{Act}
use Rattle.dg_transcript.specs.declared.cursor.Act.TheVariants as act
use Rattle.dg_transcript.specs.declared.cursor.Action.{Action}
use Rattle.dg_transcript.specs.Step.{Step, step}
use Rattle.dg_transcript.specs.Replay.{buffer_behind}
use Rattle.dg_match.specs.Held.{last_bytes, without_nulls}
use Rattle.dg_sessions.specs.Views.{SessionView, SessionsView, session_at}
use Rattle.dg_sessions.specs.Phases.{phase_behind}
use Rattle.dg_sessions.specs.declared.phase.Phase.TheVariants.{Unstarted}

-- a chunk comes behind the bytes, without its nulls, and the last bytes are kept, as many as the limit
abbrev pub with_chunk : ℕ → List ℕ → List ℕ → List ℕ
with_chunk max bytes chunk = last_bytes max (bytes ++ without_nulls chunk)

-- the step of an action at an entry
abbrev pub step_of : SessionView → Action → Entry → Step
step_of s a e = step s.cursor a (Some e)

-- the session behind an entry that answers an action, or that an action passes over: its chunk comes into the buffer, and a
-- close empties that
abbrev pub behind : SessionView → Action → Entry → SessionView
behind s a e = record s { cursor = (step_of s a e).cursor; buffer = buffer_behind (with_chunk s.max) a e s.buffer }

-- the session once an action has come to its entry
abbrev pub acted_by : Act → SessionView → Action → Entry → SessionView
acted_by act.Answered s a e = record (behind s a e) { phase = phase_behind e s.phase }
acted_by (act.Wants k) s a e = behind s a e
acted_by act.TimedOut s a e = record s { cursor = (step_of s a e).cursor }
acted_by act.Departed s a e = s

abbrev pub acted : SessionView → Action → Entry → SessionView
acted s a e = acted_by (step_of s a e).act s a e

-- ---- of all sessions

-- a new session, which has not started
abbrev pub opening : ℕ → ℕ → SessionView
opening n max = record { cursor = record { session = n; place = 0; wait = None }; buffer = []; max = max; phase = Unstarted }

abbrev pub with_session : SessionsView → SessionsView
with_session ss = record ss { all = ss.all ++ opening (length ss.all + 1) ss.max ∷ [] }

-- the session of a number, changed
abbrev pub changed_at : ℕ → (SessionView → SessionView) → SessionsView → Option SessionView → SessionsView
changed_at n f ss None = ss
changed_at n f ss (Some s) = record ss { all = slice_set ss.all (n - 1) (f s) }

abbrev pub changed : ℕ → (SessionView → SessionView) → SessionsView → SessionsView
changed n f ss = changed_at n f ss (session_at n ss)

-- how many entries of its record a session uses up as it comes to another place
abbrev pub used_between : SessionView → SessionView → ℕ
used_between old new = new.cursor.place - old.cursor.place

abbrev pub acted_at : ℕ → Action → Entry → SessionsView → Option SessionView → SessionsView
acted_at n a e ss None = ss
acted_at n a e ss (Some s) = record ss { all = slice_set ss.all (n - 1) (acted s a e); used = ss.used + used_between s (acted s a e) }

-- the sessions once an action of one of them has come to its entry
abbrev pub all_acted : ℕ → Action → Entry → SessionsView → SessionsView
all_acted n a e ss = acted_at n a e ss (session_at n ss)

-- a session's buffer emptied, cut behind a hit, and cut to another limit
abbrev pub emptied : SessionView → SessionView
emptied s = record s { buffer = [] }

abbrev pub taken : ℕ → SessionView → SessionView
taken n s = record s { buffer = drop n s.buffer }

abbrev pub limited : ℕ → SessionView → SessionView
limited max s = record s { buffer = last_bytes max s.buffer; max = max }
