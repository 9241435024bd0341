-- What a gate may answer to a call, and the entry that the answer makes.
use Rattle.std.specs.Prelude.{ℕ, ◌≡◌, ◌+◌, nat_le, Bool, true, false, ◌&&◌, if◌then◌else◌, List, [], ◌∷◌, length, Option, Some, None}
use Rattle.dg_transcript.specs.declared.code.ErrorCode.{ErrorCode}
use Rattle.dg_transcript.specs.declared.code.ErrorCode.TheVariants.{Other}
use Rattle.dg_transcript.specs.declared.cursor.Action.{Action}
use Rattle.dg_transcript.specs.declared.cursor.Action.TheVariants as action
use Rattle.dg_transcript.specs.declared.entry.Entry.{Entry}
use Rattle.dg_transcript.specs.declared.entry.Entry.TheVariants as entry
use Rattle.dg_gate.specs.declared.fault.GateFault.{GateFault}
use Rattle.dg_gate.specs.declared.fault.GateFault.TheVariants as fault
use Rattle.dg_gate.specs.declared.reply.Ended.{Ended}
use Rattle.dg_gate.specs.declared.reply.Ended.TheVariants as ended
use Rattle.dg_gate.specs.declared.reply.Piece.{Piece}
use Rattle.dg_gate.specs.declared.reply.Piece.TheVariants as piece
use Rattle.dg_gate.specs.declared.reply.Reply.{Reply}
use Rattle.dg_gate.specs.declared.reply.Reply.TheVariants as reply
use Rattle.dg_gate.specs.declared.reply.TheConstants.{MAX_CHUNK, MAX_SIGNAL}

-- the entry of a read that gave a piece within its limit: a silence is of the whole limit
abbrev pub entry_of_piece : ℕ → Piece → Option Entry
entry_of_piece limit (piece.Chunk wait bytes) =
    if nat_le wait limit && (nat_le 1 (length bytes) && nat_le (length bytes) MAX_CHUNK) then Some (entry.Chunk wait bytes) else None
entry_of_piece limit (piece.End wait) = if nat_le wait limit then Some (entry.End wait) else None
entry_of_piece limit piece.Silence = Some (entry.Silence limit)

-- the entry of a wait: a signal is one of 1 to 127
abbrev pub entry_of_end : Ended → Option Entry
entry_of_end (ended.Exited status) = Some (entry.Exited status)
entry_of_end (ended.Killed signal) = if nat_le 1 signal && nat_le signal MAX_SIGNAL then Some (entry.Killed signal) else None

-- the entry that a call and its answer make; none where the answer does not fit the call
abbrev pub entry_of : Action → Reply → Option Entry
entry_of (action.Spawn words) reply.Started = Some (entry.Started words)
entry_of (action.Spawn words) (reply.Failed code) = Some (entry.NoStart code words)
entry_of (action.Send bytes) reply.Sent = Some (entry.Sent bytes)
entry_of (action.Send bytes) (reply.Failed code) = Some (entry.NoSend code bytes)
entry_of (action.Read limit) (reply.Piece p) = entry_of_piece limit p
entry_of (action.Read limit) (reply.Failed code) = Some (entry.NoRead code)
entry_of action.Close reply.Closed = Some entry.Closed
entry_of action.Close (reply.Failed code) = Some (entry.NoClose code)
entry_of action.Wait (reply.Ended end) = entry_of_end end
entry_of action.Wait (reply.Failed code) = Some (entry.NoWait code)
entry_of a r = None

abbrev pub is_some : {A : Type 0} → Option A → Bool
is_some None = false
is_some (Some x) = true

-- the answer fits the call
abbrev pub fits : Action → Reply → Bool
fits a r = is_some (entry_of a r)

-- a call that was answered: by a step of the gate, with an answer that fits, and no failure more
abbrev pub Answered : (Reply → Type 0) → Action → ℕ → ℕ → Reply → Type 0
Answered step a old new r = step r × (fits a r ≡ true) × (new ≡ old)

-- a call that was not: a step of the gate that fails with the code, and one failure more; or want of memory
abbrev pub Refused : (Reply → Type 0) → ℕ → ℕ → GateFault → Type 0
Refused step old new (fault.Device code) = step (reply.Failed code) × (new ≡ old + 1)
Refused step old new fault.Memory = new ≡ old

-- what a list of answers gives: its first, or code 4 where there is none or it does not fit
abbrev pub first_reply : Action → List Reply → Reply
first_reply a [] = reply.Failed Other
first_reply a (r ∷ rs) = if fits a r then r else reply.Failed Other

-- the code that a list's answer fails with
abbrev pub code_in : Option Reply → ErrorCode
code_in None = Other
code_in (Some (reply.Failed code)) = code
code_in (Some r) = Other
