-- What the calls of a gate over processes do to the pieces that were taken of its sessions.
use Rattle.std.specs.Prelude.{ℕ, ◌≡◌, ◌-◌, ◌⊎◌, ◌≢◌, List, [], ◌∷◌, ◌++◌, zero, suc, Option, Some, None, IfSome}
use mathlib.Core.List.{IsPrefix}
use Rattle.rtrb.specs.Ring.{received, all_sent}
use Rattle.dg_transcript.specs.declared.cursor.Action.{Action}
use Rattle.dg_transcript.specs.declared.cursor.Action.TheVariants as action
use Rattle.dg_gate.specs.declared.fault.GateFault.{GateFault}
use Rattle.dg_gate.specs.declared.fault.GateFault.TheVariants as fault
use Rattle.dg_gate.specs.declared.reply.Piece.{Piece}
use Rattle.dg_gate.specs.declared.reply.Piece.TheVariants as piece
use Rattle.dg_gate.specs.declared.reply.Reply.{Reply}
use Rattle.dg_gate.specs.declared.reply.Reply.TheVariants as reply
use Rattle.dg_pipes.specs.declared.account.Account.{Account}
use Rattle.dg_pipes.specs.declared.item.Item.{Item}
use Rattle.dg_pipes.specs.declared.item.Item.TheVariants as item
use Rattle.dg_pipes.specs.declared.session.Session.{Session}
use Rattle.dg_pipes.specs.declared.slot.Slot.{Slot}
use Rattle.dg_pipes.specs.Waits.{IsTold}

-- what was taken of a session's ring; a closed one has none
abbrev pub taken_of : Option Session → List Item
taken_of None = []
taken_of (Some s) = received s.ring

-- what was taken of the session at a place
abbrev pub taken : List Slot → ℕ → List Item
taken [] i = []
taken (s ∷ ss) zero = taken_of s.output
taken (s ∷ ss) (suc i) = taken ss i

-- the items of a ring that a piece is
abbrev pub items_in : Piece → List Item
items_in (piece.Chunk wait bytes) = item.Chunk bytes ∷ []
items_in (piece.End wait) = item.End ∷ []
items_in piece.Silence = []

-- the wait of a piece is told in whole steps, or is all of the limit
abbrev pub IsTimed : ℕ → Piece → Type 0
IsTimed limit (piece.Chunk wait bytes) = IsTold limit wait
IsTimed limit (piece.End wait) = IsTold limit wait
IsTimed limit piece.Silence = Unit {0}

-- A piece that was read joins what was taken; a read that fails may have taken a fault; a close leaves
-- nothing; any other call leaves what was taken.
abbrev pub Joins : Action → Reply → List Item → List Item → Type 0
Joins (action.Read limit) (reply.Piece p) before after = (after ≡ before ++ items_in p) × IsTimed limit p
Joins (action.Read limit) (reply.Failed code) before after = (after ≡ before ++ item.Fault code ∷ []) ⊎ (after ≡ before)
Joins action.Close reply.Closed before after = after ≡ []
Joins a r before after = after ≡ before

-- the pieces of the session join so, and those of the others stay
abbrev pub PipeStep : List Slot → ℕ → Action → Reply → List Slot → Type 0
PipeStep before session call told after =
    Joins call told (taken before (session - 1)) (taken after (session - 1))
    × ((i : ℕ) → i ≢ session - 1 → taken after i ≡ taken before i)

-- a call that fails, by its code; want of memory says nothing
abbrev pub FailsBy : (Reply → Type 0) → GateFault → Type 0
FailsBy Step (fault.Device code) = Step (reply.Failed code)
FailsBy Step fault.Memory = Unit {0}

-- where the ring gave what was pushed, what was taken is a prefix of it, in order and each once
abbrev pub Tells : List Item → Account → Type 0
Tells items a = IfSome a.finished (λ f. IsPrefix items (all_sent f))

-- the account of a session that isn't closed
abbrev pub TellsOf : Option Session → Account → Type 0
TellsOf None a = ⊥
TellsOf (Some s) a = Tells (received s.ring) a

-- the account of one session in front of the others'; none where it is closed
abbrev pub AccountsFrom : ℕ → Option Session → (List Account → Type 0) → List Account → Type 0
AccountsFrom n None Rest told = Rest told
AccountsFrom n (Some s) Rest told = (a : Account) × (others : List Account) × (told ≡ a ∷ others) × (a.session ≡ n) × Tells (received s.ring) a × Rest others

-- one account for each session that isn't closed, in order
abbrev pub Accounts : List Slot → List Account → Type 0
Accounts [] told = told ≡ []
Accounts (s ∷ ss) told = AccountsFrom s.session s.output (Accounts ss) told
