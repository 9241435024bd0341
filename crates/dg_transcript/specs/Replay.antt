-- A replay: what a whole action comes to in the record of a session, from the entries that are left.
use Rattle.std.specs.Prelude.{ℕ, ◌-◌, ◌==◌, nat_lt, nat_le, Bool, true, false, if◌then◌else◌, List, [], ◌∷◌, Option, Some, None, unwrap_or}
use Rattle.dg_transcript.specs.declared.entry.Entry.{Entry}
use Rattle.dg_transcript.specs.declared.entry.Entry.TheVariants as entry
use Rattle.dg_transcript.specs.declared.cursor.Cursor.{Cursor}
use Rattle.dg_transcript.specs.declared.cursor.Act.{Act}
use Rattle.dg_transcript.specs.declared.cursor.Act.TheVariants as act
use Rattle.dg_transcript.specs.declared.cursor.Action.{Action}
use Rattle.dg_transcript.specs.declared.cursor.Action.TheVariants as action
use Rattle.dg_transcript.specs.Output.{output_of}
use Rattle.dg_bytes.specs.Same.{same_bytes, same_words}
use Rattle.dg_transcript.specs.Step.{Step, step}

-- the entries that are left, what is left of the first one's wait where some of it has passed, and
-- the bytes that were read and not yet taken
pub record Left : Type 0 where
  pub entries : List Entry
  pub wait : Option ℕ
  pub buffer : List ℕ

-- an action is answered by an entry, and what is left of the action is its limit; or it times out;
-- or it departs from the record
pub data Outcome : Type 0 where
  answered : Entry → Left → Action → Outcome
  timed_out : Left → Outcome
  departed : Outcome

abbrev pub left_with : List Entry → List ℕ → Left
left_with es buffer = record { entries = es; wait = None; buffer = buffer }

abbrev pub answered_if : Bool → Entry → List Entry → List ℕ → Action → Outcome
answered_if true e es buffer a = answered e (left_with es buffer) a
answered_if false e es buffer a = departed

-- the entries behind the chunks and silences in front
abbrev pub behind_heard : List Entry → List Entry
behind_heard [] = []
behind_heard (entry.Chunk wait bytes ∷ es) = behind_heard es
behind_heard (entry.Silence wait ∷ es) = behind_heard es
behind_heard (e ∷ es) = e ∷ es

-- How a chunk comes into a buffer, add, is the reader's choice.
-- the buffer with the chunks in front
abbrev pub heard : (List ℕ → List ℕ → List ℕ) → List ℕ → List Entry → List ℕ
heard add buffer [] = buffer
heard add buffer (entry.Chunk wait bytes ∷ es) = heard add (add buffer bytes) es
heard add buffer (entry.Silence wait ∷ es) = heard add buffer es
heard add buffer (e ∷ es) = buffer

abbrev pub starts : List (List ℕ) → List ℕ → List Entry → Outcome
starts words buffer (entry.Started given ∷ es) = answered_if (same_words given words) (entry.Started given) es buffer (action.Spawn words)
starts words buffer (entry.NoStart code given ∷ es) = answered_if (same_words given words) (entry.NoStart code given) es buffer (action.Spawn words)
starts words buffer es = departed

abbrev pub sends : List ℕ → List ℕ → List Entry → Outcome
sends bytes buffer (entry.Sent given ∷ es) = answered_if (same_bytes given bytes) (entry.Sent given) es buffer (action.Send bytes)
sends bytes buffer (entry.NoSend code given ∷ es) = answered_if (same_bytes given bytes) (entry.NoSend code given) es buffer (action.Send bytes)
sends bytes buffer es = departed

abbrev pub closes : List Entry → Outcome
closes (entry.Closed ∷ es) = answered entry.Closed (left_with es []) action.Close
closes (entry.NoClose code ∷ es) = answered (entry.NoClose code) (left_with es []) action.Close
closes es = departed

abbrev pub waits : List ℕ → List Entry → Outcome
waits buffer (entry.Exited status ∷ es) = answered (entry.Exited status) (left_with es buffer) action.Wait
waits buffer (entry.Killed signal ∷ es) = answered (entry.Killed signal) (left_with es buffer) action.Wait
waits buffer (entry.NoWait code ∷ es) = answered (entry.NoWait code) (left_with es buffer) action.Wait
waits buffer es = departed

-- bytes, or the end, after a wait: in time where it is at most the limit
abbrev pub arrival : ℕ → Option ℕ → ℕ → Entry → List Entry → List ℕ → List ℕ → Outcome
arrival limit wait whole e es old new =
    if nat_le (unwrap_or wait whole) limit then answered e (left_with es new) (action.Read (limit - unwrap_or wait whole))
    else timed_out (record { entries = e ∷ es; wait = Some (unwrap_or wait whole - limit); buffer = old })

-- a silence that is not shorter than the limit: it falls by the limit, and at nothing it is used up
abbrev pub silence : ℕ → Option ℕ → ℕ → List Entry → List ℕ → Outcome
silence limit wait whole es buffer =
    if unwrap_or wait whole == limit then timed_out (left_with es buffer)
    else timed_out (record { entries = entry.Silence whole ∷ es; wait = Some (unwrap_or wait whole - limit); buffer = buffer })

-- a read, with so much left of its limit and of the first entry's wait
abbrev pub reads : (List ℕ → List ℕ → List ℕ) → ℕ → Option ℕ → List ℕ → List Entry → Outcome
reads add limit wait buffer [] = departed
reads add limit wait buffer (entry.Chunk whole bytes ∷ es) = arrival limit wait whole (entry.Chunk whole bytes) es buffer (add buffer bytes)
reads add limit wait buffer (entry.End whole ∷ es) = arrival limit wait whole (entry.End whole) es buffer buffer
reads add limit wait buffer (entry.NoRead code ∷ es) = answered (entry.NoRead code) (left_with es buffer) (action.Read limit)
reads add limit wait buffer (entry.Silence whole ∷ es) =
    if nat_lt (unwrap_or wait whole) limit then reads add (limit - unwrap_or wait whole) None buffer es
    else silence limit wait whole es buffer
reads add limit wait buffer (e ∷ es) = departed

-- What an action comes to. A send passes over chunks, which come into the buffer, and silences; a
-- close passes over them and empties the buffer. A record that has ended departs for every action.
abbrev pub replay : (List ℕ → List ℕ → List ℕ) → Action → Left → Outcome
replay add (action.Spawn words) l = starts words l.buffer l.entries
replay add (action.Send bytes) l = sends bytes (heard add l.buffer l.entries) (behind_heard l.entries)
replay add (action.Read limit) l = reads add limit l.wait l.buffer l.entries
replay add action.Close l = closes (behind_heard l.entries)
replay add action.Wait l = waits l.buffer l.entries

-- ---- the same, one step at a time

-- the buffer behind an entry that was passed over or that answered
abbrev pub with_output : (List ℕ → List ℕ → List ℕ) → List ℕ → Option (ℕ × List ℕ) → List ℕ
with_output add buffer None = buffer
with_output add buffer (Some o) = add buffer o.1

abbrev pub buffer_behind : (List ℕ → List ℕ → List ℕ) → Action → Entry → List ℕ → List ℕ
buffer_behind add (action.Send bytes) e buffer = with_output add buffer (output_of e)
buffer_behind add (action.Read limit) e buffer = with_output add buffer (output_of e)
buffer_behind add action.Close e buffer = []
buffer_behind add a e buffer = buffer

-- what a step at an entry comes to, where on is what the steps behind it come to
abbrev pub stepped : Act → Cursor → Step → Entry → List Entry → List ℕ → List ℕ → Outcome → Outcome
stepped act.Answered c s e es old new on = answered e (left_with es new) s.action
stepped (act.Wants k) c s e es old new on = on
stepped act.TimedOut c s e es old new on = timed_out (record { entries = if s.cursor.place == c.place then e ∷ es else es; wait = s.cursor.wait; buffer = old })
stepped act.Departed c s e es old new on = departed

-- steps over the entries that are left
abbrev pub steps : (List ℕ → List ℕ → List ℕ) → Cursor → Action → List ℕ → List Entry → Outcome
steps add c a buffer [] = departed
steps add c a buffer (e ∷ es) =
    stepped (step c a (Some e)).act c (step c a (Some e)) e es buffer (buffer_behind add a e buffer)
    (steps add (step c a (Some e)).cursor (step c a (Some e)).action (buffer_behind add a e buffer) es)
