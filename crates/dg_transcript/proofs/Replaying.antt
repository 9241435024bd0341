-- Steps over a list of entries are the replay of that list.
use Rattle.std.proofs.Common.{◌≡◌, ℕ, ◌+◌, ◌-◌, ◌<◌, ◌≤◌, Bool, true, false, cond, List, [], ◌∷◌, length, Some, None, unwrap_or, refl, ap, ◌∙◌, arith}
use Rattle.std.specs.Prelude.{nat_lt, nat_le, ◌==◌}
use Rattle.std.proofs.lemmas.Bool.{lt-ltb, eq-eqb, ne_eqb}
use Rattle.dg_transcript.specs.declared.entry.Entry.{Entry}
use Rattle.dg_transcript.specs.declared.entry.Entry.TheVariants as entry
use Rattle.dg_transcript.specs.declared.cursor.Cursor.{Cursor}
use Rattle.dg_transcript.specs.declared.cursor.Act.TheVariants as act
use Rattle.dg_transcript.specs.declared.cursor.Action.{Action}
use Rattle.dg_transcript.specs.declared.cursor.Action.TheVariants as action
use Rattle.dg_bytes.specs.Same.{same_bytes, same_words}
use Rattle.dg_transcript.specs.Step.{Step, step_at, gone_on, answers_if}
use Rattle.dg_transcript.specs.Replay.{Outcome, answered, timed_out, left_with, answered_if, reads, replay, buffer_behind, stepped, steps}

module _ (add : List ℕ → List ℕ → List ℕ) where
  -- what steps come to at a step
  abbrev at_step : Step → Cursor → Action → Entry → List Entry → List ℕ → Outcome
  at_step s c a e es buffer = stepped s.act c s e es buffer (buffer_behind add a e buffer) (steps add s.cursor s.action (buffer_behind add a e buffer) es)

  first : (c : Cursor) (a : Action) (e : Entry) (es : List Entry) (buffer : List ℕ) → c.place < 65536 → steps add c a buffer (e ∷ es) ≡ at_step (step_at c a e) c a e es buffer
  first c a e es buffer lt = ap (λ (b : Bool). at_step (cond b (step_at c a e) (record { act = act.Departed; cursor = c; action = a })) c a e es buffer) (lt-ltb c.place 65536 lt)

  answer : (b : Bool) (c : Cursor) (a : Action) (e : Entry) (es : List Entry) (buffer : List ℕ) → at_step (answers_if b c a) c a e es buffer ≡ answered_if b e es (buffer_behind add a e buffer) a
  answer true c a e es buffer = refl
  answer false c a e es buffer = refl

  arrive : (b : Bool) (c : Cursor) (limit left : ℕ) (e : Entry) (es : List Entry) (buffer : List ℕ) →
      at_step (cond b (record { act = act.Answered; cursor = gone_on c; action = action.Read (limit - left) }) (record { act = act.TimedOut; cursor = record { session = c.session; place = c.place; wait = Some (left - limit) }; action = action.Read 0 })) c (action.Read limit) e es buffer
      ≡ cond b (answered e (left_with es (buffer_behind add (action.Read limit) e buffer)) (action.Read (limit - left))) (timed_out (record { entries = e ∷ es; wait = Some (left - limit); buffer = buffer }))
  arrive true c limit left e es buffer = refl
  arrive false c limit left e es buffer = rw (eq-eqb c.place c.place refl) refl

  silent_end : (b : Bool) (c : Cursor) (limit left whole : ℕ) (es : List Entry) (buffer : List ℕ) →
      at_step (record { act = act.TimedOut; cursor = cond b (gone_on c) (record { session = c.session; place = c.place; wait = Some (left - limit) }); action = action.Read 0 }) c (action.Read limit) (entry.Silence whole) es buffer
      ≡ cond b (timed_out (left_with es buffer)) (timed_out (record { entries = entry.Silence whole ∷ es; wait = Some (left - limit); buffer = buffer }))
  silent_end true c limit left whole es buffer = let next : (c.place + 1 == c.place) ≡ false = ne_eqb (c.place + 1) c.place (λ e. omega arith) in rw next refl
  silent_end false c limit left whole es buffer = rw (eq-eqb c.place c.place refl) refl

  silent_step : (b : Bool) (c : Cursor) (limit left whole : ℕ) (es : List Entry) (buffer : List ℕ) → steps add (gone_on c) (action.Read (limit - left)) buffer es ≡ reads add (limit - left) None buffer es →
      at_step (cond b (record { act = act.Wants (c.place + 1); cursor = gone_on c; action = action.Read (limit - left) })
      (record { act = act.TimedOut; cursor = cond (left == limit) (gone_on c) (record { session = c.session; place = c.place; wait = Some (left - limit) }); action = action.Read 0 })) c (action.Read limit) (entry.Silence whole) es buffer
      ≡ cond b (reads add (limit - left) None buffer es) (cond (left == limit) (timed_out (left_with es buffer)) (timed_out (record { entries = entry.Silence whole ∷ es; wait = Some (left - limit); buffer = buffer })))
  silent_step true c limit left whole es buffer on = on
  silent_step false c limit left whole es buffer on = silent_end (left == limit) c limit left whole es buffer

  pub steps_replay : (c : Cursor) (a : Action) (buffer : List ℕ) (es : List Entry) → c.place + length es ≤ 65536 → steps add c a buffer es ≡ replay add a (record { entries = es; wait = c.wait; buffer = buffer })
  steps_replay c (action.Spawn words) buffer [] room = refl
  steps_replay c (action.Send bytes) buffer [] room = refl
  steps_replay c (action.Read limit) buffer [] room = refl
  steps_replay c action.Close buffer [] room = refl
  steps_replay c action.Wait buffer [] room = refl
  steps_replay c (action.Spawn words) buffer (entry.Started given ∷ es) room = first c (action.Spawn words) (entry.Started given) es buffer (omega arith) ∙ answer (same_words given words) c (action.Spawn words) (entry.Started given) es buffer
  steps_replay c (action.Spawn words) buffer (entry.NoStart code given ∷ es) room = first c (action.Spawn words) (entry.NoStart code given) es buffer (omega arith) ∙ answer (same_words given words) c (action.Spawn words) (entry.NoStart code given) es buffer
  steps_replay c (action.Send bytes) buffer (entry.Chunk wait given ∷ es) room = first c (action.Send bytes) (entry.Chunk wait given) es buffer (omega arith) ∙ steps_replay (gone_on c) (action.Send bytes) (add buffer given) es (omega arith)
  steps_replay c (action.Send bytes) buffer (entry.Silence wait ∷ es) room = first c (action.Send bytes) (entry.Silence wait) es buffer (omega arith) ∙ steps_replay (gone_on c) (action.Send bytes) buffer es (omega arith)
  steps_replay c (action.Send bytes) buffer (entry.Sent given ∷ es) room = first c (action.Send bytes) (entry.Sent given) es buffer (omega arith) ∙ answer (same_bytes given bytes) c (action.Send bytes) (entry.Sent given) es buffer
  steps_replay c (action.Send bytes) buffer (entry.NoSend code given ∷ es) room = first c (action.Send bytes) (entry.NoSend code given) es buffer (omega arith) ∙ answer (same_bytes given bytes) c (action.Send bytes) (entry.NoSend code given) es buffer
  steps_replay c (action.Read limit) buffer (entry.Chunk whole given ∷ es) room = first c (action.Read limit) (entry.Chunk whole given) es buffer (omega arith) ∙ arrive (nat_le (unwrap_or c.wait whole) limit) c limit (unwrap_or c.wait whole) (entry.Chunk whole given) es buffer
  steps_replay c (action.Read limit) buffer (entry.End whole ∷ es) room = first c (action.Read limit) (entry.End whole) es buffer (omega arith) ∙ arrive (nat_le (unwrap_or c.wait whole) limit) c limit (unwrap_or c.wait whole) (entry.End whole) es buffer
  steps_replay c (action.Read limit) buffer (entry.Silence whole ∷ es) room =
      first c (action.Read limit) (entry.Silence whole) es buffer (omega arith)
      ∙ silent_step (nat_lt (unwrap_or c.wait whole) limit) c limit (unwrap_or c.wait whole) whole es buffer (steps_replay (gone_on c) (action.Read (limit - unwrap_or c.wait whole)) buffer es (omega arith))
  steps_replay c action.Close buffer (entry.Chunk wait given ∷ es) room = first c action.Close (entry.Chunk wait given) es buffer (omega arith) ∙ steps_replay (gone_on c) action.Close [] es (omega arith)
  steps_replay c action.Close buffer (entry.Silence wait ∷ es) room = first c action.Close (entry.Silence wait) es buffer (omega arith) ∙ steps_replay (gone_on c) action.Close [] es (omega arith)
  steps_replay c action.Wait buffer (entry.Exited status ∷ es) room = first c action.Wait (entry.Exited status) es buffer (omega arith)
  steps_replay c a buffer (e ∷ es) room = first c a e es buffer (omega arith)
