-- What a step leaves as it is, and what an act makes of a session.
use Rattle.std.proofs.Common.{◌≡◌, ℕ, ◌+◌, ◌-◌, Bool, true, false, cond, List, ◌⊎◌, Some, None, refl, ap, inl, inr, arith}
use Rattle.std.specs.Prelude.{nat_lt, nat_le, ◌==◌, unwrap_or}
use Rattle.dg_transcript.specs.declared.entry.Entry.{Entry}
use Rattle.dg_transcript.specs.declared.entry.Entry.TheVariants as entry
use Rattle.dg_transcript.specs.declared.cursor.Cursor.{Cursor}
use Rattle.dg_transcript.specs.declared.cursor.Act.{Act}
use Rattle.dg_transcript.specs.declared.cursor.Act.TheVariants as act
use Rattle.dg_transcript.specs.declared.cursor.Action.{Action}
use Rattle.dg_transcript.specs.declared.cursor.Action.TheVariants as action
use Rattle.dg_bytes.specs.Same.{same_bytes, same_words}
use Rattle.dg_transcript.specs.Step.{Step, step, step_at, departs, answers, answers_if, passes, waiting, gone_on}
use Rattle.dg_transcript.specs.Replay.{buffer_behind}
use Rattle.dg_sessions.specs.Views.{SessionView}
use Rattle.dg_sessions.specs.Phases.{phase_behind}
use Rattle.dg_sessions.specs.Steps.{step_of, with_chunk, behind, acted, acted_by, used_between}

read_hears : (add : List ℕ → List ℕ → List ℕ) (l m : ℕ) (e : Entry) (buffer : List ℕ) → buffer_behind add (action.Read l) e buffer ≡ buffer_behind add (action.Read m) e buffer
read_hears add l m e buffer = refl

-- the session's number stays, and the action hears what it heard
record Stays (c : Cursor) (a : Action) (s : Step) : Type 0 where
  number : s.cursor.session ≡ c.session
  hears : (add : List ℕ → List ℕ → List ℕ) (e : Entry) (buffer : List ℕ) → buffer_behind add s.action e buffer ≡ buffer_behind add a e buffer

departs-stays : (c : Cursor) (a : Action) → Stays c a (departs c a)
departs-stays c a = record { number = refl; hears = λ add e buffer. refl }

answers_if-stays : (b : Bool) (c : Cursor) (a : Action) → Stays c a (answers_if b c a)
answers_if-stays true c a = record { number = refl; hears = λ add e buffer. refl }
answers_if-stays false c a = record { number = refl; hears = λ add e buffer. refl }

passes-stays : (c : Cursor) (a : Action) → Stays c a (passes c a)
passes-stays c a = record { number = refl; hears = λ add e buffer. refl }

answers-stays : (c : Cursor) (a : Action) → Stays c a (answers c a)
answers-stays c a = record { number = refl; hears = λ add e buffer. refl }

arrives-stays : (b : Bool) (c : Cursor) (limit left : ℕ) →
    Stays c (action.Read limit) (cond b (answers c (action.Read (limit - left))) (record { act = act.TimedOut; cursor = waiting c (left - limit); action = action.Read 0 }))
arrives-stays true c limit left = record { number = refl; hears = λ add e buffer. read_hears add (limit - left) limit e buffer }
arrives-stays false c limit left = record { number = refl; hears = λ add e buffer. read_hears add 0 limit e buffer }

is_silent-stays : (b d : Bool) (c : Cursor) (limit left : ℕ) →
    Stays c (action.Read limit) (cond b (passes c (action.Read (limit - left))) (record { act = act.TimedOut; cursor = cond d (gone_on c) (waiting c (left - limit)); action = action.Read 0 }))
is_silent-stays true d c limit left = record { number = refl; hears = λ add e buffer. read_hears add (limit - left) limit e buffer }
is_silent-stays false true c limit left = record { number = refl; hears = λ add e buffer. read_hears add 0 limit e buffer }
is_silent-stays false false c limit left = record { number = refl; hears = λ add e buffer. read_hears add 0 limit e buffer }

step_at-stays : (c : Cursor) (a : Action) (e : Entry) → Stays c a (step_at c a e)
step_at-stays c (action.Spawn words) (entry.Started given) = answers_if-stays (same_words given words) c (action.Spawn words)
step_at-stays c (action.Spawn words) (entry.NoStart code given) = answers_if-stays (same_words given words) c (action.Spawn words)
step_at-stays c (action.Send bytes) (entry.Chunk wait given) = passes-stays c (action.Send bytes)
step_at-stays c (action.Send bytes) (entry.Silence wait) = passes-stays c (action.Send bytes)
step_at-stays c (action.Send bytes) (entry.Sent given) = answers_if-stays (same_bytes given bytes) c (action.Send bytes)
step_at-stays c (action.Send bytes) (entry.NoSend code given) = answers_if-stays (same_bytes given bytes) c (action.Send bytes)
step_at-stays c (action.Read limit) (entry.Chunk wait given) = arrives-stays (nat_le (unwrap_or c.wait wait) limit) c limit (unwrap_or c.wait wait)
step_at-stays c (action.Read limit) (entry.End wait) = arrives-stays (nat_le (unwrap_or c.wait wait) limit) c limit (unwrap_or c.wait wait)
step_at-stays c (action.Read limit) (entry.Silence wait) = is_silent-stays (nat_lt (unwrap_or c.wait wait) limit) (unwrap_or c.wait wait == limit) c limit (unwrap_or c.wait wait)
step_at-stays c (action.Read limit) (entry.NoRead code) = answers-stays c (action.Read limit)
step_at-stays c action.Close (entry.Chunk wait given) = passes-stays c action.Close
step_at-stays c action.Close (entry.Silence wait) = passes-stays c action.Close
step_at-stays c action.Close entry.Closed = answers-stays c action.Close
step_at-stays c action.Close (entry.NoClose code) = answers-stays c action.Close
step_at-stays c action.Wait (entry.Exited status) = answers-stays c action.Wait
step_at-stays c action.Wait (entry.Killed signal) = answers-stays c action.Wait
step_at-stays c action.Wait (entry.NoWait code) = answers-stays c action.Wait
step_at-stays c a e = departs-stays c a

step-stays : (b : Bool) (c : Cursor) (a : Action) (e : Entry) → Stays c a (cond b (step_at c a e) (departs c a))
step-stays true c a e = step_at-stays c a e
step-stays false c a e = departs-stays c a

-- a step leaves the session's number
pub step_number : (c : Cursor) (a : Action) (e : Entry) → (step c a (Some e)).cursor.session ≡ c.session
step_number c a e = (step-stays (nat_lt c.place 65536) c a e).number

-- and the action that is left hears what the action heard
pub step_hears : (c : Cursor) (a : Action) (e : Entry) (max : ℕ) (f : Entry) (buffer : List ℕ) → buffer_behind (with_chunk max) (step c a (Some e)).action f buffer ≡ buffer_behind (with_chunk max) a f buffer
step_hears c a e max f buffer = (step-stays (nat_lt c.place 65536) c a e).hears (with_chunk max) f buffer

pub acted_answered : (s : SessionView) (a : Action) (e : Entry) → (step_of s a e).act ≡ act.Answered → acted s a e ≡ record (behind s a e) { phase = phase_behind e s.phase }
acted_answered s a e is = ap (λ v. acted_by v s a e) is

pub acted_wants : (s : SessionView) (a : Action) (e : Entry) (k : ℕ) → (step_of s a e).act ≡ act.Wants k → acted s a e ≡ behind s a e
acted_wants s a e k is = ap (λ v. acted_by v s a e) is

pub acted_timed_out : (s : SessionView) (a : Action) (e : Entry) → (step_of s a e).act ≡ act.TimedOut → acted s a e ≡ record s { cursor = (step_of s a e).cursor }
acted_timed_out s a e is = ap (λ v. acted_by v s a e) is

pub acted_departed : (s : SessionView) (a : Action) (e : Entry) → (step_of s a e).act ≡ act.Departed → acted s a e ≡ s
acted_departed s a e is = ap (λ v. acted_by v s a e) is

-- ---- entries that are used up

-- an entry that answers or is passed over is used up
abbrev pub UsesUp : Act → Type 0
UsesUp act.Answered = Unit {0}
UsesUp (act.Wants k) = Unit {0}
UsesUp act.TimedOut = ⊥
UsesUp act.Departed = ⊥

-- a step that uses its entry up comes to the next place
abbrev GoesOn : Cursor → Step → Type 0
GoesOn c s = UsesUp s.act → s.cursor.place ≡ c.place + 1

departs-goes : (c : Cursor) (a : Action) → GoesOn c (departs c a)
departs-goes c a h = absurd h

answers_if-goes : (b : Bool) (c : Cursor) (a : Action) → GoesOn c (answers_if b c a)
answers_if-goes true c a h = refl
answers_if-goes false c a h = absurd h

arrives-goes : (b : Bool) (c : Cursor) (limit left : ℕ) →
    GoesOn c (cond b (answers c (action.Read (limit - left))) (record { act = act.TimedOut; cursor = waiting c (left - limit); action = action.Read 0 }))
arrives-goes true c limit left h = refl
arrives-goes false c limit left h = absurd h

is_silent-goes : (b d : Bool) (c : Cursor) (limit left : ℕ) →
    GoesOn c (cond b (passes c (action.Read (limit - left))) (record { act = act.TimedOut; cursor = cond d (gone_on c) (waiting c (left - limit)); action = action.Read 0 }))
is_silent-goes true d c limit left h = refl
is_silent-goes false d c limit left h = absurd h

step_at-goes : (c : Cursor) (a : Action) (e : Entry) → GoesOn c (step_at c a e)
step_at-goes c (action.Spawn words) (entry.Started given) = answers_if-goes (same_words given words) c (action.Spawn words)
step_at-goes c (action.Spawn words) (entry.NoStart code given) = answers_if-goes (same_words given words) c (action.Spawn words)
step_at-goes c (action.Send bytes) (entry.Chunk wait given) = λ h. refl
step_at-goes c (action.Send bytes) (entry.Silence wait) = λ h. refl
step_at-goes c (action.Send bytes) (entry.Sent given) = answers_if-goes (same_bytes given bytes) c (action.Send bytes)
step_at-goes c (action.Send bytes) (entry.NoSend code given) = answers_if-goes (same_bytes given bytes) c (action.Send bytes)
step_at-goes c (action.Read limit) (entry.Chunk wait given) = arrives-goes (nat_le (unwrap_or c.wait wait) limit) c limit (unwrap_or c.wait wait)
step_at-goes c (action.Read limit) (entry.End wait) = arrives-goes (nat_le (unwrap_or c.wait wait) limit) c limit (unwrap_or c.wait wait)
step_at-goes c (action.Read limit) (entry.Silence wait) = is_silent-goes (nat_lt (unwrap_or c.wait wait) limit) (unwrap_or c.wait wait == limit) c limit (unwrap_or c.wait wait)
step_at-goes c (action.Read limit) (entry.NoRead code) = λ h. refl
step_at-goes c action.Close (entry.Chunk wait given) = λ h. refl
step_at-goes c action.Close (entry.Silence wait) = λ h. refl
step_at-goes c action.Close entry.Closed = λ h. refl
step_at-goes c action.Close (entry.NoClose code) = λ h. refl
step_at-goes c action.Wait (entry.Exited status) = λ h. refl
step_at-goes c action.Wait (entry.Killed signal) = λ h. refl
step_at-goes c action.Wait (entry.NoWait code) = λ h. refl
step_at-goes c a e = departs-goes c a

step-goes : (b : Bool) (c : Cursor) (a : Action) (e : Entry) → GoesOn c (cond b (step_at c a e) (departs c a))
step-goes true c a e = step_at-goes c a e
step-goes false c a e = departs-goes c a

acted-used : (x : Act) (s : SessionView) (a : Action) (e : Entry) → UsesUp x → (acted_by x s a e).cursor.place ≡ (step_of s a e).cursor.place
acted-used act.Answered s a e h = refl
acted-used (act.Wants k) s a e h = refl
acted-used act.TimedOut s a e h = absurd h
acted-used act.Departed s a e h = absurd h

pub step_goes : (s : SessionView) (a : Action) (e : Entry) → UsesUp (step_of s a e).act → (step_of s a e).cursor.place ≡ s.cursor.place + 1
step_goes s a e h = step-goes (nat_lt s.cursor.place 65536) s.cursor a e h

-- where a step has left its cursor: behind an entry that has answered no wait is left; a timeout leaves the entry, or has used it up
abbrev pub RestsBy : Act → Cursor → Cursor → Type 0
RestsBy act.Answered old new = new.wait ≡ None
RestsBy (act.Wants k) old new = Unit {0}
RestsBy act.TimedOut old new = (new.place ≡ old.place) ⊎ (new.place ≡ old.place + 1)
RestsBy act.Departed old new = Unit {0}

abbrev Rests : Cursor → Step → Type 0
Rests c s = RestsBy s.act c s.cursor

answers_if-rests : (b : Bool) (c : Cursor) (a : Action) → Rests c (answers_if b c a)
answers_if-rests true c a = refl
answers_if-rests false c a = tt

arrives-rests : (b : Bool) (c : Cursor) (limit left : ℕ) →
    Rests c (cond b (answers c (action.Read (limit - left))) (record { act = act.TimedOut; cursor = waiting c (left - limit); action = action.Read 0 }))
arrives-rests true c limit left = refl
arrives-rests false c limit left = inl refl

is_silent-rests : (b d : Bool) (c : Cursor) (limit left : ℕ) →
    Rests c (cond b (passes c (action.Read (limit - left))) (record { act = act.TimedOut; cursor = cond d (gone_on c) (waiting c (left - limit)); action = action.Read 0 }))
is_silent-rests true d c limit left = tt
is_silent-rests false true c limit left = inr refl
is_silent-rests false false c limit left = inl refl

step_at-rests : (c : Cursor) (a : Action) (e : Entry) → Rests c (step_at c a e)
step_at-rests c (action.Spawn words) (entry.Started given) = answers_if-rests (same_words given words) c (action.Spawn words)
step_at-rests c (action.Spawn words) (entry.NoStart code given) = answers_if-rests (same_words given words) c (action.Spawn words)
step_at-rests c (action.Send bytes) (entry.Chunk wait given) = tt
step_at-rests c (action.Send bytes) (entry.Silence wait) = tt
step_at-rests c (action.Send bytes) (entry.Sent given) = answers_if-rests (same_bytes given bytes) c (action.Send bytes)
step_at-rests c (action.Send bytes) (entry.NoSend code given) = answers_if-rests (same_bytes given bytes) c (action.Send bytes)
step_at-rests c (action.Read limit) (entry.Chunk wait given) = arrives-rests (nat_le (unwrap_or c.wait wait) limit) c limit (unwrap_or c.wait wait)
step_at-rests c (action.Read limit) (entry.End wait) = arrives-rests (nat_le (unwrap_or c.wait wait) limit) c limit (unwrap_or c.wait wait)
step_at-rests c (action.Read limit) (entry.Silence wait) = is_silent-rests (nat_lt (unwrap_or c.wait wait) limit) (unwrap_or c.wait wait == limit) c limit (unwrap_or c.wait wait)
step_at-rests c (action.Read limit) (entry.NoRead code) = refl
step_at-rests c action.Close (entry.Chunk wait given) = tt
step_at-rests c action.Close (entry.Silence wait) = tt
step_at-rests c action.Close entry.Closed = refl
step_at-rests c action.Close (entry.NoClose code) = refl
step_at-rests c action.Wait (entry.Exited status) = refl
step_at-rests c action.Wait (entry.Killed signal) = refl
step_at-rests c action.Wait (entry.NoWait code) = refl
step_at-rests c a e = tt

step-rests : (b : Bool) (c : Cursor) (a : Action) (e : Entry) → Rests c (cond b (step_at c a e) (departs c a))
step-rests true c a e = step_at-rests c a e
step-rests false c a e = tt

pub step_rests : (s : SessionView) (a : Action) (e : Entry) → RestsBy (step_of s a e).act s.cursor (step_of s a e).cursor
step_rests s a e = step-rests (nat_lt s.cursor.place 65536) s.cursor a e

-- an action that uses its entry up uses up just one
pub one_used : (s : SessionView) (a : Action) (e : Entry) → UsesUp (step_of s a e).act → used_between s (acted s a e) ≡ 1
one_used s a e h =
    let goes : (step_of s a e).cursor.place ≡ s.cursor.place + 1 = step-goes (nat_lt s.cursor.place 65536) s.cursor a e h in
    omega (arith, acted-used (step_of s a e).act s a e h, goes)
