-- The entries that the answers of gates make, and how a replay takes them.
use Rattle.std.specs.Prelude.{ℕ, ◌≡◌, ◌≤◌, ◌⊎◌, Some, length}
use Rattle.dg_transcript.specs.declared.cursor.Cursor.{Cursor}
use Rattle.dg_transcript.specs.declared.cursor.Act.TheVariants as act
use Rattle.dg_transcript.specs.declared.cursor.Action.{Action}
use Rattle.dg_transcript.specs.declared.cursor.Action.TheVariants as action
use Rattle.dg_transcript.specs.declared.entry.Entry.{Entry}
use Rattle.dg_transcript.specs.declared.entry.Entry.TheVariants as entry
use Rattle.dg_transcript.specs.Step.{step, gone_on}
use Rattle.dg_gate.specs.declared.reply.TheConstants.{MAX_CHUNK, MAX_SIGNAL}

-- an entry that some answer makes of the action: of a send or a start with its own bytes or words,
-- of a read within its limit, and a silence of the whole limit
abbrev pub Made : Action → Entry → Type 0
Made (action.Spawn words) (entry.Started given) = given ≡ words
Made (action.Spawn words) (entry.NoStart code given) = given ≡ words
Made (action.Send bytes) (entry.Sent given) = given ≡ bytes
Made (action.Send bytes) (entry.NoSend code given) = given ≡ bytes
Made (action.Read limit) (entry.Chunk wait bytes) = (wait ≤ limit) × (1 ≤ length bytes) × (length bytes ≤ MAX_CHUNK)
Made (action.Read limit) (entry.End wait) = wait ≤ limit
Made (action.Read limit) (entry.NoRead code) = Unit {0}
Made (action.Read limit) (entry.Silence wait) = wait ≡ limit
Made action.Close entry.Closed = Unit {0}
Made action.Close (entry.NoClose code) = Unit {0}
Made action.Wait (entry.Exited status) = Unit {0}
Made action.Wait (entry.Killed signal) = (1 ≤ signal) × (signal ≤ MAX_SIGNAL)
Made action.Wait (entry.NoWait code) = Unit {0}
Made a e = ⊥

-- a fresh place in a record takes the entry: as the answer, or as a silence that is used up with the limit
abbrev pub Takes : Cursor → Action → Entry → Type 0
Takes c a e =
    ((step c a (Some e)).act ≡ act.Answered) × ((step c a (Some e)).cursor ≡ gone_on c)
    ⊎ ((step c a (Some e)).act ≡ act.TimedOut) × ((step c a (Some e)).cursor ≡ gone_on c) × ((step c a (Some e)).action ≡ action.Read 0) × ((limit : ℕ) × (a ≡ action.Read limit) × (e ≡ entry.Silence limit))
