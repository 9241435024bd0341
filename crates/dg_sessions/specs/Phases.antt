-- How far a session has come.
use Rattle.std.specs.Prelude.{Bool, true, false}
use Rattle.dg_transcript.specs.declared.entry.Entry.{Entry}
use Rattle.dg_transcript.specs.declared.entry.Entry.TheVariants as entry
use Rattle.dg_sessions.specs.declared.phase.Phase.{Phase}
use Rattle.dg_sessions.specs.declared.phase.Phase.TheVariants.{Unstarted, Open, Ended, Closed, Waited}

-- the phase behind an entry that has answered
abbrev pub phase_behind : Entry → Phase → Phase
phase_behind (entry.Started words) p = Open
phase_behind (entry.NoStart code words) p = Unstarted
phase_behind (entry.End wait) p = Ended
phase_behind (entry.NoRead code) p = Ended
phase_behind entry.Closed p = Closed
phase_behind (entry.NoClose code) p = Closed
phase_behind (entry.Exited status) p = Waited
phase_behind (entry.Killed signal) p = Waited
phase_behind (entry.NoWait code) p = Waited
phase_behind e p = p

-- `send`, `expect` and `close` want a session that is neither closed nor ended
abbrev pub is_open : Phase → Bool
is_open Open = true
is_open p = false

-- `match_max` wants one that started
abbrev pub has_started : Phase → Bool
has_started Unstarted = false
has_started p = true

-- `wait` wants one that started and was not waited for
abbrev pub can_wait : Phase → Bool
can_wait Unstarted = false
can_wait Waited = false
can_wait p = true
