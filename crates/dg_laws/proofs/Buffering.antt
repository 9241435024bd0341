-- The buffer after some chunks.
use Rattle.std.proofs.Common.{◌≡◌, ℕ, ◌-◌, Bool, true, false, cond, List, [], ◌∷◌, refl, ap, sym, ◌∙◌, subst}
use Rattle.std.specs.Prelude.{Option, Some, None, nat_lt, nat_le, ◌==◌, unwrap_or}
use Rattle.dg_match.specs.Held.{heard_all}
use Rattle.dg_match.proofs.ChunkLemmas.{heard_together}
use Rattle.dg_match.specs.declared.pattern.Pattern.{Pattern}
use Rattle.dg_transcript.specs.declared.entry.Entry.{Entry}
use Rattle.dg_transcript.specs.declared.entry.Entry.TheVariants as entry
use Rattle.dg_transcript.specs.declared.cursor.Action.TheVariants as action
use Rattle.dg_transcript.specs.Output.{output_of}
use Rattle.dg_transcript.specs.Replay.{Left, Outcome, answered, timed_out, departed, left_with, reads, with_output}
use Rattle.dg_sessions.specs.Steps.{with_chunk}
use Rattle.dg_laws.specs.Awaiting.{Awaits, ReadsChunk, ChunksComeIntoTheBuffer}

module _ (add : List ℕ → List ℕ → List ℕ) (buffer : List ℕ) where
  -- the entry that answers comes into the buffer, if it is output
  abbrev Hears : Outcome → Type 0
  Hears (answered e l a) = l.buffer ≡ with_output add buffer (output_of e)
  Hears (timed_out l) = Unit {0}
  Hears departed = Unit {0}

  in_time : (b : Bool) (e : Entry) (es left : List Entry) (new : List ℕ) (m : ℕ) (w : Option ℕ) → new ≡ with_output add buffer (output_of e)
      → Hears (cond b (answered e (left_with es new) (action.Read m)) (timed_out (record { entries = left; wait = w; buffer = buffer })))
  in_time true e es left new m w h = h
  in_time false e es left new m w h = tt

  two_timeouts : (b : Bool) (l m : Left) → Hears (cond b (timed_out l) (timed_out m))
  two_timeouts true l m = tt
  two_timeouts false l m = tt

  either_hears : (b : Bool) (o p : Outcome) → Hears o → Hears p → Hears (cond b o p)
  either_hears true o p h g = h
  either_hears false o p h g = g

  reads-hear : (limit : ℕ) (wait : Option ℕ) (es : List Entry) → Hears (reads add limit wait buffer es)
  reads-hear limit wait [] = tt
  reads-hear limit wait (entry.Chunk whole bytes ∷ es) =
      in_time (nat_le (unwrap_or wait whole) limit) (entry.Chunk whole bytes) es (entry.Chunk whole bytes ∷ es) (add buffer bytes) (limit - unwrap_or wait whole)
      (Some (unwrap_or wait whole - limit)) refl
  reads-hear limit wait (entry.End whole ∷ es) =
      in_time (nat_le (unwrap_or wait whole) limit) (entry.End whole) es (entry.End whole ∷ es) buffer (limit - unwrap_or wait whole)
      (Some (unwrap_or wait whole - limit)) refl
  reads-hear limit wait (entry.NoRead code ∷ es) = refl
  reads-hear limit wait (entry.Silence whole ∷ es) =
      either_hears (nat_lt (unwrap_or wait whole) limit) _ _ (reads-hear (limit - unwrap_or wait whole) None es)
      (two_timeouts (unwrap_or wait whole == limit) (left_with es buffer) (record { entries = entry.Silence whole ∷ es; wait = Some (unwrap_or wait whole - limit); buffer = buffer }))
  reads-hear limit wait (e ∷ es) = tt

chunk-buffer : (max limit : ℕ) (l : Left) (chunk : List ℕ) (m : ℕ) (q : Left) → ReadsChunk max limit l chunk m q → q.buffer ≡ with_chunk max l.buffer chunk
chunk-buffer max limit l chunk m q c =
    subst (Hears (with_chunk max) l.buffer) c.comes (reads-hear (with_chunk max) l.buffer limit l.wait l.entries)
    ∙ ap (with_output (with_chunk max) l.buffer) c.output

awaits-heard : (patterns : List Pattern) (max limit less : ℕ) (l r : Left) (chunks : List (List ℕ)) → Awaits patterns max limit l chunks less r
    → r.buffer ≡ (heard_all chunks (record { bytes = l.buffer; max = max })).bytes
awaits-heard patterns max limit less l r [] (same, here) = ap (λ x. x.buffer) (sym here)
awaits-heard patterns max limit less l r (chunk ∷ chunks) (none, (m, q, c, more)) =
    awaits-heard patterns max m less q r chunks more
    ∙ ap (λ b. (heard_all chunks (record { bytes = b; max = max })).bytes) (chunk-buffer max limit l chunk m q c)

pub chunks_come : ChunksComeIntoTheBuffer
chunks_come patterns max limit less l r chunks fits read =
    awaits-heard patterns max limit less l r chunks read
    ∙ ap (λ o. o.bytes) (heard_together chunks (record { bytes = l.buffer; max = max }) fits)
