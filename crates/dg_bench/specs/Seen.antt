-- What a pass, a receipt and the locked value know.
use Rattle.std.specs.Prelude.{ℕ, ◌≡◌, ◌+◌, Bool, true, false, List, [], ◌∷◌, ◌++◌, length, take, slice_get, Option, None, Some, option_map}
use mathlib.Core.List.{IsPrefix}
use Rattle.dg_core.specs.Core.{CoreView, new_core}
use Rattle.dg_bench.specs.Cells.{Sees}
use Rattle.dg_bench.specs.declared.call.Call.{Call}
use Rattle.dg_bench.specs.declared.note.PlaceNote.{PlaceNote}
use Rattle.dg_bench.specs.declared.place.Place.{Place}
use Rattle.dg_bench.specs.History.{IsLegal, Makes}

-- the calls that a pass has seen, how many they are, and whether it is a pass of this bench
pub record Seen : Type 0 where
  pub ours : Bool
  pub count : ℕ
  pub calls : List Call

-- the place of a call, and the call; or how many calls there were at a look, and none
pub record Told : Type 0 where
  pub number : ℕ
  pub call : Option Call

-- what is under the lock: a core, its calls so far, and whether the bench has stopped
pub record Kept : Type 0 where
  pub core : CoreView
  pub calls : List Call
  pub stopped : Bool

-- the calls up to a place, its own the last
abbrev pub all_of : Place → List Call
all_of p = p.before.value.items ++ p.call ∷ []

abbrev pub known_of : Option PlaceNote → Option Place
known_of None = None
known_of (Some n) = n.place.known

abbrev pub calls_to : Option Place → List Call
calls_to None = []
calls_to (Some p) = all_of p

abbrev pub calls_of : Option PlaceNote → List Call
calls_of n = calls_to (known_of n)

abbrev pub seen_of : Bool → ℕ → Option PlaceNote → Seen
seen_of ours count note = record { ours = ours; count = count; calls = calls_of note }

-- the note is of the last place of so many, and knows what that holds; no note is of none
abbrev pub Knows : List ℕ → ℕ → Option PlaceNote → Type 0
Knows names count None = count ≡ 0
Knows names count (Some n) = (k : ℕ) × (p : Place) × (count ≡ k + 1) × Sees names k n p

-- a pass of this bench knows the last place that it has seen, and the calls up to there are legal
abbrev pub IsSeen : List ℕ → Bool → ℕ → Option PlaceNote → Type 0
IsSeen names ours count note = ours ≡ true → Knows names count note × (count ≡ length (calls_of note)) × IsLegal (calls_of note)

-- a note of each place in use knows the call that stands there, and the calls before it
pub record KnowsAll (names : List ℕ) (notes : List PlaceNote) (calls : List Call) : Type 0 where
  pub lengths : length notes ≡ length calls
  pub each : (i : ℕ) (n : PlaceNote) → slice_get notes i ≡ Some n → (p : Place) × Sees names i n p × (slice_get calls i ≡ Some p.call) × (p.before.value.items ≡ take i calls)

abbrev pub told_of : ℕ → Option PlaceNote → Told
told_of number note = record { number = number; call = option_map (λ (p : Place). p.call) (known_of note) }

-- the note of a receipt is of the place of its number, and knows what that holds
abbrev pub IsTold : List ℕ → ℕ → Option PlaceNote → Type 0
IsTold names number None = Unit {0}
IsTold names number (Some n) = (p : Place) × Sees names number n p

abbrev pub kept_of : CoreView → List Call → Bool → Kept
kept_of core calls stopped = record { core = core; calls = calls; stopped = stopped }

-- the calls are legal, and while the bench hasn't stopped they make just this core
abbrev pub IsKept : List ℕ → CoreView → List Call → List PlaceNote → Bool → Type 0
IsKept names core calls notes stopped = KnowsAll names notes calls × IsLegal calls × (stopped ≡ false → Makes new_core calls core)

-- a pass of this bench that has seen all these calls
abbrev pub seen_all : List Call → Seen
seen_all calls = record { ours = true; count = length calls; calls = calls }

-- these calls begin with all that a pass of this bench has seen
abbrev pub HasSeenBeginningOf : Seen → List Call → Type 0
HasSeenBeginningOf pass calls = pass.ours ≡ true → IsPrefix pass.calls calls

-- the receipt of a call at this place
abbrev pub called : ℕ → Call → Told
called number call = record { number = number; call = Some call }

-- the receipt of a look at so many calls
abbrev pub front : ℕ → Told
front number = record { number = number; call = None }
