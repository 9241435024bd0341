-- Which match `expect` takes, in a source that answers a session's entries from a list.
use Rattle.std.specs.Prelude.{◌≡◌, ℕ, ◌≤◌, List, [], ◌∷◌, ◌++◌, length, Option, Some, None}
use Rattle.std.specs.List.{concat}
use Rattle.dg_match.specs.Held.{last_bytes, without_nulls}
use Rattle.dg_match.specs.Hits.{hit_of}
use Rattle.dg_match.specs.declared.hit.Hit.{Hit}
use Rattle.dg_match.specs.declared.pattern.Pattern.{Pattern}
use Rattle.dg_transcript.specs.declared.entry.Entry.{Entry}
use Rattle.dg_transcript.specs.declared.cursor.Action.TheVariants as action
use Rattle.dg_transcript.specs.Output.{output_of}
use Rattle.dg_transcript.specs.Replay.{Left, Outcome, answered, timed_out, departed, replay}
use Rattle.dg_sessions.specs.Steps.{with_chunk}
use Rattle.dg_language.specs.Play.{Play, Source, run}
use Rattle.dg_language.specs.State.{State}
use Rattle.dg_language.specs.Evaluation.{Ending, Then, Nested}
use Rattle.dg_language.specs.Sessions.{depart}
use Rattle.dg_language.specs.ExpectWords.{patterns_in, is_for_timeout, is_for_end}
use Rattle.dg_language.specs.Expecting.{Waiting, with_match, with_end, action_at, first_action, act, one_round}
use Rattle.dg_laws.specs.Replays.{Stands, OnlySessions}

-- With so much of a limit, a read of what is left is answered with a chunk, and then that limit and those entries are left.
pub record ReadsChunk (max limit : ℕ) (l : Left) (chunk : List ℕ) (less : ℕ) (r : Left) : Type 0 where
  pub entry : Entry
  pub wait : ℕ
  pub comes : replay (with_chunk max) (action.Read limit) l ≡ answered entry r (action.Read less)
  pub output : output_of entry ≡ Some (wait, chunk)

-- These chunks are read one after the other, and no pattern has a match before the last of them is read.
abbrev pub Awaits : List Pattern → ℕ → ℕ → Left → List (List ℕ) → ℕ → Left → Type 0
Awaits patterns max limit l [] less r = (limit ≡ less) × (l ≡ r)
Awaits patterns max limit l (chunk ∷ chunks) less r =
    (hit_of patterns l.buffer ≡ None) × ((m : ℕ) × (q : Left) × ReadsChunk max limit l chunk m q × Awaits patterns max m q chunks less r)

-- What a wait comes to once chunks were read: a match is taken; or, where there is none, what the next read comes to that isn't answered with a chunk.
abbrev pub Ends : Source → ℕ → Nested → Waiting → (State → Play Ending) → Then → State → Play Ending → Left → Option Hit → Outcome → Type 0
Ends look max nested w again k s play r (Some hit) next =
    (t : State) × OnlySessions s t × Stands look w.session max t r
    × (run look play ≡ run look (act nested w.session (action_at hit.index w.pairs) again (with_match w.session r.buffer hit t) k))
Ends look max nested w again k s play r None (answered e q a) =
    output_of e ≡ None → (t : State) × OnlySessions s t × Stands look w.session max t q
    × (run look play ≡ run look (act nested w.session (first_action is_for_end w.pairs) again (with_end w.session q.buffer t) k))
Ends look max nested w again k s play r None (timed_out q) =
    (t : State) × OnlySessions s t × Stands look w.session max t q
    × (run look play ≡ run look (act nested w.session (first_action is_for_timeout w.pairs) again t k))
Ends look max nested w again k s play r None departed = (t : State) × OnlySessions s t × (run look play ≡ run look (depart t))

-- In a source that answers a session's entries from a list, `expect` takes the hit at the least number of chunks that has one, unless a timeout, the end
-- or a departure comes first.
abbrev pub ExpectTakesTheFirstHit : Type 0
ExpectTakesTheFirstHit =
    (look : Source) (max less : ℕ) (nested : Nested) (w : Waiting) (again : State → Play Ending) (k : Then) (s : State) (l r : Left)
    (chunks : List (List ℕ))
    → Stands look w.session max s l → Awaits (patterns_in w.pairs) max w.limit l chunks less r
    → Ends look max nested w again k s (one_round nested w again s k) r (hit_of (patterns_in w.pairs) r.buffer) (replay (with_chunk max) (action.Read less) r)

-- The buffer is then the last bytes of the opening buffer and of those chunks without nulls.
abbrev pub ChunksComeIntoTheBuffer : Type 0
ChunksComeIntoTheBuffer =
    (patterns : List Pattern) (max limit less : ℕ) (l r : Left) (chunks : List (List ℕ)) → length l.buffer ≤ max
    → Awaits patterns max limit l chunks less r → r.buffer ≡ last_bytes max (l.buffer ++ without_nulls (concat chunks))
