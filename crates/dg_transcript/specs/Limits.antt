-- The order and the limits that a transcript keeps.
use Rattle.std.specs.Prelude.{ℕ, ◌<◌, ◌≤◌, Bool, true, ◌&&◌, IsTrue, List, [], ◌∷◌, length, sum_by}
use Rattle.std.specs.List.{AllByRecursion}
use Rattle.hex.specs.Hex.{IsBytes}
use Rattle.dg_transcript.specs.declared.entry.Entry.{Entry}
use Rattle.dg_transcript.specs.declared.entry.Entry.TheVariants as entry
use Rattle.dg_transcript.specs.declared.line.Place.{Place}
use Rattle.dg_transcript.specs.declared.line.Place.TheVariants as place
use Rattle.dg_transcript.specs.Order.{role_of, admits, after_role}
use Rattle.dg_transcript.specs.declared.limits.TheConstants.{MAX_CHUNK, MAX_ENTRIES, MAX_SENT, MAX_SESSIONS, MAX_SIGNAL, MAX_WAIT, MAX_WORDS}

-- at least one byte, and at most so many
abbrev pub BytesFit : ℕ → List ℕ → Type 0
BytesFit most bytes = (0 < length bytes) × (length bytes ≤ most) × IsBytes bytes

-- 1 to 64 words
abbrev pub WordsFit : List (List ℕ) → Type 0
WordsFit words = (0 < length words) × (length words ≤ MAX_WORDS) × AllByRecursion IsBytes words

-- the limits of an entry: waits of at most an hour, chunks of at most 4,096 bytes
abbrev pub EntryFits : Entry → Type 0
EntryFits (entry.Started words) = WordsFit words
EntryFits (entry.NoStart code words) = WordsFit words
EntryFits (entry.Sent bytes) = BytesFit MAX_SENT bytes
EntryFits (entry.NoSend code bytes) = BytesFit MAX_SENT bytes
EntryFits (entry.Chunk wait bytes) = (wait ≤ MAX_WAIT) × BytesFit MAX_CHUNK bytes
EntryFits (entry.End wait) = wait ≤ MAX_WAIT
EntryFits (entry.NoRead code) = Unit {0}
EntryFits (entry.Silence wait) = wait ≤ MAX_WAIT
EntryFits entry.Closed = Unit {0}
EntryFits (entry.NoClose code) = Unit {0}
EntryFits (entry.Exited status) = status ≤ 255
EntryFits (entry.Killed signal) = (1 ≤ signal) × (signal ≤ MAX_SIGNAL)
EntryFits (entry.NoWait code) = Unit {0}

-- each entry may come where it stands
abbrev pub in_order : Place → List Entry → Bool
in_order p [] = true
in_order p (e ∷ es) = admits p (role_of e) && in_order (after_role (role_of e)) es

-- the record of one session
abbrev pub IsSession : List Entry → Type 0
IsSession s = (0 < length s) × IsTrue (in_order place.Opened s) × AllByRecursion EntryFits s

-- at most 64 sessions, with at most 65,536 entries in all
pub record IsTranscript (ss : List (List Entry)) : Type 0 where
  pub sessions : length ss ≤ MAX_SESSIONS
  pub entries : sum_by length ss ≤ MAX_ENTRIES
  pub each : AllByRecursion IsSession ss
