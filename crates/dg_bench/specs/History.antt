-- What the calls of a history make of a new core.
use Rattle.std.specs.Prelude.{◌≡◌, ℕ, List, [], ◌∷◌, ◌++◌, map, Ok, Some, None}
use Rattle.dg_world.specs.World.{look}
use Rattle.dg_records.specs.Truth.{IsTrueRecord}
use Rattle.dg_core.specs.Core.{CoreView, new_core, edited_core, committed, committed_live, IsAskedOf}
use Rattle.dg_core.specs.Scratch.{scratch}
use Rattle.dg_core.specs.Reply.{Replies}
use Rattle.dg_core.specs.declared.reply.Reply.TheVariants.{Sum}
use Rattle.dg_core.specs.Events.{Event, Edits, Asks, Commits, Lives, Reports, Runs}
use Rattle.dg_bench.specs.declared.call.Call.{Call}
use Rattle.dg_bench.specs.declared.call.Call.TheVariants.{Edit, Ask, Commit, Live, Report}

-- a call that is accepted takes a core to another, and its reply is the core's: an edit, the first ask of a pattern, a kept record, a kept live run, or a report
abbrev pub Steps : CoreView → Call → CoreView → Type 0
Steps old (Edit edit) new = edited_core old edit ≡ Ok new
Steps old (Ask question answer) new = (look old.world question ≡ None) × IsAskedOf old new question answer
Steps old (Commit r) new = IsTrueRecord r.test r.reads r.verdict × (new ≡ committed old r)
Steps old (Live r sessions) new = IsTrueRecord r.test r.reads r.verdict × (committed_live old r sessions ≡ Ok new)
Steps old (Report reply) new = (new ≡ old) × Replies old reply

-- the calls, one after another, take a core to another
abbrev pub Makes : CoreView → List Call → CoreView → Type 0
Makes old [] new = new ≡ old
Makes old (call ∷ calls) new = (next : CoreView) × Steps old call next × Makes next calls new

-- each call has the reply that it has where the calls before it were made of a new core
abbrev pub IsLegal : List Call → Type 0
IsLegal calls = (core : CoreView) × Makes new_core calls core

-- what a call is among the events of a core
abbrev pub event_of : Call → Event
event_of (Edit edit) = Edits edit
event_of (Ask question answer) = Asks question
event_of (Commit r) = Commits r
event_of (Live r sessions) = Lives r sessions
event_of (Report reply) = Reports

-- a legal history is a run of a core's events
abbrev pub HistoriesAreRuns : Type 0
HistoriesAreRuns = (calls : List Call) (core : CoreView) → Makes new_core calls core → Runs new_core (map event_of calls) core

-- each report of a legal history that answers a sum has the bytes and the status of judging every selected test from scratch, on the world that the calls before it make
abbrev pub SumsAreFromScratch : Type 0
SumsAreFromScratch =
    (before after : List Call) (bytes : List ℕ) (status : ℕ) → IsLegal (before ++ Report (Sum bytes status) ∷ after)
    → (core : CoreView) × Makes new_core before core × (scratch core.world ≡ Some (bytes, status))
