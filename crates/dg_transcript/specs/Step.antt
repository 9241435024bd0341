-- One step of a replay: what an entry is to an action.
use Rattle.std.specs.Prelude.{ℕ, ◌+◌, ◌-◌, ◌==◌, nat_lt, nat_le, Bool, if◌then◌else◌, Option, Some, None, unwrap_or}
use Rattle.dg_bytes.specs.Same.{same_bytes, same_words}
use Rattle.dg_transcript.specs.declared.entry.Entry.{Entry}
use Rattle.dg_transcript.specs.declared.entry.Entry.TheVariants as entry
use Rattle.dg_transcript.specs.declared.cursor.Cursor.{Cursor}
use Rattle.dg_transcript.specs.declared.cursor.Act.{Act}
use Rattle.dg_transcript.specs.declared.cursor.Act.TheVariants as act
use Rattle.dg_transcript.specs.declared.cursor.Action.{Action}
use Rattle.dg_transcript.specs.declared.cursor.Action.TheVariants as action
use Rattle.dg_transcript.specs.declared.limits.TheConstants.{MAX_ENTRIES}

-- an answer, the place behind it, and the action with what is left of its limit
pub record Step : Type 0 where
  pub act : Act
  pub cursor : Cursor
  pub action : Action

-- behind the wanted entry
abbrev pub gone_on : Cursor → Cursor
gone_on c = record { session = c.session; place = c.place + 1; wait = None }

-- with so much left of the wanted entry's wait
abbrev pub waiting : Cursor → ℕ → Cursor
waiting c left = record { session = c.session; place = c.place; wait = Some left }

abbrev pub departs : Cursor → Action → Step
departs c a = record { act = act.Departed; cursor = c; action = a }

abbrev pub answers : Cursor → Action → Step
answers c a = record { act = act.Answered; cursor = gone_on c; action = a }

abbrev pub passes : Cursor → Action → Step
passes c a = record { act = act.Wants (c.place + 1); cursor = gone_on c; action = a }

abbrev pub answers_if : Bool → Cursor → Action → Step
answers_if fits c a = record { act = if fits then act.Answered else act.Departed; cursor = if fits then gone_on c else c; action = a }

-- bytes, or the end, after a wait: in time where it is at most the limit
abbrev pub arrives : Cursor → ℕ → ℕ → Step
arrives c limit wait =
    if nat_le (unwrap_or c.wait wait) limit then answers c (action.Read (limit - unwrap_or c.wait wait))
    else record { act = act.TimedOut; cursor = waiting c (unwrap_or c.wait wait - limit); action = action.Read 0 }

-- nothing for a time: shorter than the limit it is passed over, else the limit passes
abbrev pub is_silent : Cursor → ℕ → ℕ → Step
is_silent c limit wait =
    if nat_lt (unwrap_or c.wait wait) limit then passes c (action.Read (limit - unwrap_or c.wait wait))
    else record { act = act.TimedOut; cursor = if unwrap_or c.wait wait == limit then gone_on c else waiting c (unwrap_or c.wait wait - limit); action = action.Read 0 }

abbrev pub step_at : Cursor → Action → Entry → Step
step_at c (action.Spawn words) (entry.Started given) = answers_if (same_words given words) c (action.Spawn words)
step_at c (action.Spawn words) (entry.NoStart code given) = answers_if (same_words given words) c (action.Spawn words)
step_at c (action.Send bytes) (entry.Chunk wait given) = passes c (action.Send bytes)
step_at c (action.Send bytes) (entry.Silence wait) = passes c (action.Send bytes)
step_at c (action.Send bytes) (entry.Sent given) = answers_if (same_bytes given bytes) c (action.Send bytes)
step_at c (action.Send bytes) (entry.NoSend code given) = answers_if (same_bytes given bytes) c (action.Send bytes)
step_at c (action.Read limit) (entry.Chunk wait given) = arrives c limit wait
step_at c (action.Read limit) (entry.End wait) = arrives c limit wait
step_at c (action.Read limit) (entry.Silence wait) = is_silent c limit wait
step_at c (action.Read limit) (entry.NoRead code) = answers c (action.Read limit)
step_at c action.Close (entry.Chunk wait given) = passes c action.Close
step_at c action.Close (entry.Silence wait) = passes c action.Close
step_at c action.Close entry.Closed = answers c action.Close
step_at c action.Close (entry.NoClose code) = answers c action.Close
step_at c action.Wait (entry.Exited status) = answers c action.Wait
step_at c action.Wait (entry.Killed signal) = answers c action.Wait
step_at c action.Wait (entry.NoWait code) = answers c action.Wait
step_at c a e = departs c a

-- the step at the wanted entry; a record has none behind its end, nor behind the first 65,536
abbrev pub step : Cursor → Action → Option Entry → Step
step c a None = departs c a
step c a (Some e) = if nat_lt c.place MAX_ENTRIES then step_at c a e else departs c a
