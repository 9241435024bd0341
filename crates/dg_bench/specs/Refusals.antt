-- Why a call of a bench isn't made, and what that leaves.
use Rattle.std.specs.Prelude.{◌≡◌, ◌≢◌, ◌⊎◌, ◌<◌, ◌≤◌, ℕ, true, List, length}
use Rattle.dg_core.specs.Core.{CoreView, new_core}
use Rattle.dg_world.specs.declared.refusal.Refusal.{Refusal}
use Rattle.dg_world.specs.declared.refusal.Refusal.TheVariants.{Memory as WantsMemory}
use Rattle.dg_bench.specs.declared.refusal.BenchRefusal.{BenchRefusal}
use Rattle.dg_bench.specs.declared.refusal.BenchRefusal.TheVariants.{Shorter, HistoryFull, Edit, Memory}
use Rattle.dg_bench.specs.declared.call.Call.{Call}
use Rattle.dg_bench.specs.History.{IsLegal, Makes}
use Rattle.dg_bench.specs.Seen.{Seen, Kept, seen_all, HasSeenBeginningOf}

-- a pass that comes back has seen all the calls, which begin with what it had seen
abbrev pub SeesAll : Kept → Seen → Seen → Type 0
SeesAll kept pass back = (pass.count ≤ length kept.calls) × (back ≡ seen_all kept.calls) × IsLegal kept.calls × HasSeenBeginningOf pass kept.calls

-- What a refusal tells of a call that would enter the history of at most `limit` calls, and what it leaves. `cause`: when the core refuses the call.
-- A pass that has seen more calls than there are is given back as it was.
abbrev pub Refuses : (CoreView → Refusal → Type 0) → ℕ → Kept → Kept → Seen → Seen → BenchRefusal → Type 0
Refuses cause limit old new pass back (Shorter seen found) =
    (seen ≡ pass.count) × (found ≡ length old.calls) × (found < seen) × (back ≡ pass) × (new ≡ old)
Refuses cause limit old new pass back HistoryFull =
    SeesAll old pass back × (new.calls ≡ old.calls) × (((limit ≤ length old.calls) × (new ≡ old)) ⊎ (new.stopped ≡ true))
Refuses cause limit old new pass back (Edit why) =
    SeesAll old pass back × Makes new_core old.calls old.core × cause old.core why × (why ≢ WantsMemory) × (new ≡ old) × (length old.calls < limit)
Refuses cause limit old new pass back Memory = SeesAll old pass back × (new ≡ old)

-- What a refusal tells of a call for which the bench had shown the pass all calls, and what it leaves.
abbrev pub RefusesBegun : (CoreView → Refusal → Type 0) → Kept → Kept → BenchRefusal → Type 0
RefusesBegun cause old new (Shorter seen found) = ⊥
RefusesBegun cause old new HistoryFull = (new.calls ≡ old.calls) × (new.stopped ≡ true)
RefusesBegun cause old new (Edit why) = cause old.core why × (why ≢ WantsMemory) × (new ≡ old)
RefusesBegun cause old new Memory = new ≡ old

-- a pass that has since seen a legal list of calls, which begins with what it had seen
abbrev pub SeesMore : Seen → Seen → Type 0
SeesMore pass back = (back.ours ≡ true) × (back.count ≡ length back.calls) × (pass.count ≤ back.count) × IsLegal back.calls × HasSeenBeginningOf pass back.calls

-- there was a legal list of fewer calls than the pass has seen
abbrev pub HasSeenMore : Seen → Type 0
HasSeenMore pass = (calls : List Call) × IsLegal calls × (length calls < pass.count)

-- what a refusal tells a caller, which can't look under the lock
abbrev pub IsRefused : (CoreView → Refusal → Type 0) → Seen → Seen → BenchRefusal → Type 0
IsRefused cause pass back (Shorter seen found) = (seen ≡ pass.count) × (found < seen) × (back ≡ pass)
IsRefused cause pass back HistoryFull = SeesMore pass back
IsRefused cause pass back (Edit why) = SeesMore pass back × ((core : CoreView) × Makes new_core back.calls core × cause core why) × (why ≢ WantsMemory)
IsRefused cause pass back Memory = SeesMore pass back

-- no cause: a call that a core doesn't refuse
abbrev pub never : CoreView → Refusal → Type 0
never core why = ⊥
