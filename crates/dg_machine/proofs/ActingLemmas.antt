-- Actions on sessions, an entry at a time.
use Rattle.std.proofs.Common.{◌≡◌, ℕ, suc, ◌+◌, ◌-◌, ◌^◌, ◌<◌, ◌≤◌, Bool, true, false, cond, List, ◌++◌, length, length-append, refl, ap, sym, ◌∙◌, subst, arith}
use Rattle.std.specs.Prelude.{Option, Some, None, nat_lt, nat_le, ◌==◌, unwrap_or, codes, decimal}
use Rattle.dg_transcript.specs.declared.entry.Entry.{Entry}
use Rattle.dg_transcript.specs.declared.entry.Entry.TheVariants as entry
use Rattle.dg_transcript.specs.declared.cursor.Cursor.{Cursor}
use Rattle.dg_transcript.specs.declared.cursor.Act.{Act}
use Rattle.dg_transcript.specs.declared.cursor.Act.TheVariants as act
use Rattle.dg_transcript.specs.declared.cursor.Action.{Action}
use Rattle.dg_transcript.specs.declared.cursor.Action.TheVariants as action
use Rattle.dg_bytes.specs.Same.{same_bytes, same_words}
use Rattle.dg_transcript.specs.Step.{Step, step, step_at, departs, answers, answers_if, passes, waiting, gone_on}
use Rattle.dg_sessions.specs.Views.{SessionView, SessionsView, id_of, session_at}
use Rattle.dg_sessions.specs.Steps.{step_of, acted, acted_by, all_acted, acted_at, used_between}
use Rattle.dg_world.specs.declared.question.Answer.{Answer}
use Rattle.dg_world.specs.declared.question.Answer.TheVariants as answer
use Rattle.dg_language.specs.declared.ask.Ask.{Ask}
use Rattle.dg_language.specs.Play.{Play, Asks, lookup}
use Rattle.dg_language.specs.State.{State, learn, with_sessions}
use Rattle.dg_language.specs.Evaluation.{Ending, cut}
use Rattle.dg_language.specs.Arguments.{on}
use Rattle.dg_language.specs.Sessions.{Told, Late, departed_from, ask_for, hear_for, entry_for, entry_in, come_to, at_entry, perform, performing, depart}
use Rattle.dg_language.proofs.Asking.{lookup-learned}
use Rattle.std.proofs.lemmas.Fmt.{length-decimal-le}
use Rattle.dg_results.specs.declared.verdict.Line.{Line}
use Rattle.dg_results.specs.Lines.{lines_of, depart_lines}
use Rattle.dg_language.specs.declared.close.Close.TheVariants.{Departed}
use Rattle.dg_machine.specs.Meaning.{ends_with}
use Rattle.dg_machine.specs.Acting.{UsesOne, Acts, SameKind}

-- ---- how a step goes on in its record

-- an answer, or an entry that is passed over, is used up; where a limit has passed, one may be
abbrev pub GoesOn : Act → Cursor → Cursor → Type 0
GoesOn act.Answered c d = d.place ≡ c.place + 1
GoesOn (act.Wants k) c d = d.place ≡ c.place + 1
GoesOn act.TimedOut c d = c.place ≤ d.place
GoesOn act.Departed c d = Unit {0}

record Walks (c : Cursor) (a : Action) (s : Step) : Type 0 where
  on : GoesOn s.act c s.cursor
  kind : SameKind a s.action

same-kind : (a : Action) → SameKind a a
same-kind (action.Spawn words) = tt
same-kind (action.Send bytes) = tt
same-kind (action.Read limit) = refl
same-kind action.Close = tt
same-kind action.Wait = tt

departs-walks : (c : Cursor) (a : Action) → Walks c a (departs c a)
departs-walks c a = record { on = tt; kind = same-kind a }

answers_if-walks : (b : Bool) (c : Cursor) (a : Action) → Walks c a (answers_if b c a)
answers_if-walks true c a = record { on = refl; kind = same-kind a }
answers_if-walks false c a = record { on = tt; kind = same-kind a }

passes-walks : (c : Cursor) (a : Action) → Walks c a (passes c a)
passes-walks c a = record { on = refl; kind = same-kind a }

answers-walks : (c : Cursor) (a : Action) → Walks c a (answers c a)
answers-walks c a = record { on = refl; kind = same-kind a }

arrives-walks : (b : Bool) (c : Cursor) (limit left : ℕ)
    → Walks c (action.Read limit) (cond b (answers c (action.Read (limit - left))) (record { act = act.TimedOut; cursor = waiting c (left - limit); action = action.Read 0 }))
arrives-walks true c limit left = record { on = refl; kind = refl }
arrives-walks false c limit left = record { on = omega arith; kind = refl }

is_silent-walks : (b d : Bool) (c : Cursor) (limit left : ℕ)
    → Walks c (action.Read limit) (cond b (passes c (action.Read (limit - left))) (record { act = act.TimedOut; cursor = cond d (gone_on c) (waiting c (left - limit)); action = action.Read 0 }))
is_silent-walks true d c limit left = record { on = refl; kind = refl }
is_silent-walks false true c limit left = record { on = omega arith; kind = refl }
is_silent-walks false false c limit left = record { on = omega arith; kind = refl }

step_at-walks : (c : Cursor) (a : Action) (e : Entry) → Walks c a (step_at c a e)
step_at-walks c (action.Spawn words) (entry.Started given) = answers_if-walks (same_words given words) c (action.Spawn words)
step_at-walks c (action.Spawn words) (entry.NoStart code given) = answers_if-walks (same_words given words) c (action.Spawn words)
step_at-walks c (action.Send bytes) (entry.Chunk wait given) = passes-walks c (action.Send bytes)
step_at-walks c (action.Send bytes) (entry.Silence wait) = passes-walks c (action.Send bytes)
step_at-walks c (action.Send bytes) (entry.Sent given) = answers_if-walks (same_bytes given bytes) c (action.Send bytes)
step_at-walks c (action.Send bytes) (entry.NoSend code given) = answers_if-walks (same_bytes given bytes) c (action.Send bytes)
step_at-walks c (action.Read limit) (entry.Chunk wait given) = arrives-walks (nat_le (unwrap_or c.wait wait) limit) c limit (unwrap_or c.wait wait)
step_at-walks c (action.Read limit) (entry.End wait) = arrives-walks (nat_le (unwrap_or c.wait wait) limit) c limit (unwrap_or c.wait wait)
step_at-walks c (action.Read limit) (entry.Silence wait) = is_silent-walks (nat_lt (unwrap_or c.wait wait) limit) (unwrap_or c.wait wait == limit) c limit (unwrap_or c.wait wait)
step_at-walks c (action.Read limit) (entry.NoRead code) = answers-walks c (action.Read limit)
step_at-walks c action.Close (entry.Chunk wait given) = passes-walks c action.Close
step_at-walks c action.Close (entry.Silence wait) = passes-walks c action.Close
step_at-walks c action.Close entry.Closed = answers-walks c action.Close
step_at-walks c action.Close (entry.NoClose code) = answers-walks c action.Close
step_at-walks c action.Wait (entry.Exited status) = answers-walks c action.Wait
step_at-walks c action.Wait (entry.Killed signal) = answers-walks c action.Wait
step_at-walks c action.Wait (entry.NoWait code) = answers-walks c action.Wait
step_at-walks c a e = departs-walks c a

step-walks : (b : Bool) (c : Cursor) (a : Action) (e : Entry) → Walks c a (cond b (step_at c a e) (departs c a))
step-walks true c a e = step_at-walks c a e
step-walks false c a e = departs-walks c a

pub step-goes-on : (c : Cursor) (a : Action) (e : Entry) → GoesOn (step c a (Some e)).act c (step c a (Some e)).cursor
step-goes-on c a e = (step-walks (nat_lt c.place 65536) c a e).on

pub step-kind : (c : Cursor) (a : Action) (e : Entry) → SameKind a (step c a (Some e)).action
step-kind c a e = (step-walks (nat_lt c.place 65536) c a e).kind

-- ---- the sessions behind an entry

module _ (n : ℕ) (a : Action) (e : Entry) (ss : SessionsView) (v : SessionView) (there : session_at n ss ≡ Some v) where
  used-at : (all_acted n a e ss).used ≡ ss.used + used_between v (acted v a e)
  used-at = ap (λ o. (acted_at n a e ss o).used) there

  pub used-answered : (step_of v a e).act ≡ act.Answered → (all_acted n a e ss).used ≡ ss.used + 1
  used-answered is =
      let on : (step_of v a e).cursor.place ≡ v.cursor.place + 1 = subst (λ x. GoesOn x v.cursor (step_of v a e).cursor) is (step-goes-on v.cursor a e) in
      let same : (acted v a e).cursor ≡ (step_of v a e).cursor = ap (λ x. (acted_by x v a e).cursor) is in
      let place : (acted v a e).cursor.place ≡ v.cursor.place + 1 = ap (λ (c : Cursor). c.place) same ∙ on in
      used-at ∙ omega (arith, place)

  pub used-passed : (k : ℕ) → (step_of v a e).act ≡ act.Wants k → (all_acted n a e ss).used ≡ ss.used + 1
  used-passed k is =
      let on : (step_of v a e).cursor.place ≡ v.cursor.place + 1 = subst (λ x. GoesOn x v.cursor (step_of v a e).cursor) is (step-goes-on v.cursor a e) in
      let same : (acted v a e).cursor ≡ (step_of v a e).cursor = ap (λ x. (acted_by x v a e).cursor) is in
      let place : (acted v a e).cursor.place ≡ v.cursor.place + 1 = ap (λ (c : Cursor). c.place) same ∙ on in
      used-at ∙ omega (arith, place)

  pub used-more : ss.used ≤ (all_acted n a e ss).used
  used-more = omega (arith, used-at)

-- ---- what an action comes to

pub ask_for-asks : (q : Ask) (s : State) (k : Answer → State → Play Ending) → lookup q.question s.known ≡ None → ask_for q s k ≡ Asks q (λ a. k a (learn q.question a s))
unfolding ask_for
ask_for-asks q s k e = ap (λ o. hear_for o q s k) e

pub ask_for-known : (q : Ask) (a : Answer) (s : State) (k : Answer → State → Play Ending) → lookup q.question s.known ≡ Some a → ask_for q s k ≡ k a s
unfolding ask_for
ask_for-known q a s k e = ap (λ o. hear_for o q s k) e

module _ (n : ℕ) (a : Action) (told : Told) (late : Late) where
  -- what is done with an answer, where r entries more may be used up behind it
  abbrev round : ℕ → SessionView → Answer → State → Play Ending
  round r v heard t =
      on (entry_in heard) (depart t) (λ e.
      come_to (step_of v a e).act e told late (at_entry n a e t) (performing r n (step_of v a e).action told late (at_entry n a e t)))

  pub perform-full : (s : State) → 65536 ≤ s.sessions.used → perform n a told late s ≡ cut (codes "too many transcript entries") s
  unfolding perform performing
  perform-full s l = let none : 65536 - s.sessions.used ≡ 0 = omega arith in rw none refl

  performing-absent : (r : ℕ) (s : State) → session_at n s.sessions ≡ None → performing (suc r) n a told late s ≡ depart s
  unfolding performing
  performing-absent r s h = rw h refl

  performing-there : (r : ℕ) (s : State) (v : SessionView) → session_at n s.sessions ≡ Some v → performing (suc r) n a told late s ≡ ask_for (entry_for n v a s) s (round r v)
  unfolding performing
  performing-there r s v h = rw h refl

  perform-some : (s : State) (r : ℕ) → 65536 - s.sessions.used ≡ r → perform n a told late s ≡ performing r n a told late s
  unfolding perform
  perform-some s r e = rw e refl

  pub perform-absent : (s : State) → s.sessions.used < 65536 → session_at n s.sessions ≡ None → perform n a told late s ≡ depart s
  perform-absent s l h = perform-some s (suc (65535 - s.sessions.used)) (omega arith) ∙ performing-absent (65535 - s.sessions.used) s h

  pub perform-there : (s : State) (v : SessionView) → s.sessions.used < 65536 → session_at n s.sessions ≡ Some v
      → perform n a told late s ≡ ask_for (entry_for n v a s) s (round (65535 - s.sessions.used) v)
  perform-there s v l h = perform-some s (suc (65535 - s.sessions.used)) (omega arith) ∙ performing-there (65535 - s.sessions.used) s v h

  learned-there : (s : State) (v : SessionView) (x : Answer) → s.sessions.used < 65536 → session_at n s.sessions ≡ Some v
      → lookup (entry_for n v a s).question s.known ≡ None
      → perform n a told late (learn (entry_for n v a s).question x s) ≡ round (65535 - s.sessions.used) v x (learn (entry_for n v a s).question x s)
  unfolding learn
  learned-there s v x l h none =
      perform-there (learn (entry_for n v a s).question x s) v l h
      ∙ ask_for-known (entry_for n v a s) x (learn (entry_for n v a s).question x s) (round (65535 - s.sessions.used) v)
      (lookup-learned (entry_for n v a s).question x s.known none)

  -- the entry is not known
  pub perform-asks : (s : State) (v : SessionView) → s.sessions.used < 65536 → session_at n s.sessions ≡ Some v
      → lookup (entry_for n v a s).question s.known ≡ None
      → perform n a told late s ≡ Asks (entry_for n v a s) (λ x. perform n a told late (learn (entry_for n v a s).question x s))
  perform-asks s v l h none =
      perform-there s v l h
      ∙ ask_for-asks (entry_for n v a s) s (round (65535 - s.sessions.used) v) none
      ∙ ap (Asks (entry_for n v a s)) (λ i x. sym (learned-there s v x l h none) i)

  pub perform-known : (s : State) (v : SessionView) (x : Answer) → s.sessions.used < 65536 → session_at n s.sessions ≡ Some v
      → lookup (entry_for n v a s).question s.known ≡ Some x → perform n a told late s ≡ round (65535 - s.sessions.used) v x s
  perform-known s v x l h some =
      perform-there s v l h ∙ ask_for-known (entry_for n v a s) x s (round (65535 - s.sessions.used) v) some

-- the entry is known
module _ (n : ℕ) (a : Action) (s : State) (v : SessionView) (l : s.sessions.used < 65536) (h : session_at n s.sessions ≡ Some v) where
  -- it is not there
  pub perform-ended : (told : Told) (late : Late) (x : Answer) → lookup (entry_for n v a s).question s.known ≡ Some x → entry_in x ≡ None
      → perform n a told late s ≡ depart s
  perform-ended told late x some none =
      perform-known n a told late s v x l h some
      ∙ ap (λ (o : Option Entry). on o (depart s) (λ e.
      come_to (step_of v a e).act e told late (at_entry n a e s) (performing (65535 - s.sessions.used) n (step_of v a e).action told late (at_entry n a e s)))) none

  module _ (e : Entry) (some : lookup (entry_for n v a s).question s.known ≡ Some (answer.Entry e)) (b : Action) (kept : b ≡ (step_of v a e).action)
      (t : State) (new : t ≡ at_entry n a e s) where
    comes : (told : Told) (late : Late) (x : Act) → (step_of v a e).act ≡ x
        → perform n a told late s ≡ come_to x e told late t (performing (65535 - s.sessions.used) n b told late t)
    comes told late x is =
        perform-known n a told late s v (answer.Entry e) l h some
        ∙ ap (λ y. come_to y e told late (at_entry n a e s) (performing (65535 - s.sessions.used) n (step_of v a e).action told late (at_entry n a e s))) is
        ∙ ap (λ (u : State). come_to x e told late u (performing (65535 - s.sessions.used) n (step_of v a e).action told late u)) (sym new)
        ∙ ap (λ (c : Action). come_to x e told late t (performing (65535 - s.sessions.used) n c told late t)) (sym kept)

    used-of : t.sessions.used ≡ (all_acted n a e s.sessions).used
    unfolding with_sessions
    used-of = ap (λ (u : State). u.sessions.used) new

    same-of : t ≡ with_sessions t.sessions s
    unfolding with_sessions
    same-of = new ∙ ap (λ (ss : SessionsView). with_sessions ss s) (sym (ap (λ (u : State). u.sessions) new))

    -- as many entries are left at the next
    next-is : (told : Told) (late : Late) → t.sessions.used ≡ s.sessions.used + 1 → performing (65535 - s.sessions.used) n b told late t ≡ perform n b told late t
    unfolding perform
    next-is told late u = let same : 65536 - t.sessions.used ≡ 65535 - s.sessions.used = omega (arith, u) in sym (rw same refl)

    -- it answers
    pub perform-answered : (step_of v a e).act ≡ act.Answered
        → ((told : Told) (late : Late) → perform n a told late s ≡ told e t (perform n b told late t)) × UsesOne s t × SameKind a b
    perform-answered is =
        let one = used-of ∙ used-answered n a e s.sessions v h is in (
          λ told late. comes told late act.Answered is ∙ ap (told e t) (next-is told late one),
          record { same = same-of; one = one; room = l },
          subst (SameKind a) (sym kept) (step-kind v.cursor a e),
        )

    -- it is passed over
    pub perform-passed : (k : ℕ) → (step_of v a e).act ≡ act.Wants k
        → ((told : Told) (late : Late) → perform n a told late s ≡ perform n b told late t) × UsesOne s t × SameKind a b
    perform-passed k is =
        let one = used-of ∙ used-passed n a e s.sessions v h k is in (
          λ told late. comes told late (act.Wants k) is ∙ next-is told late one,
          record { same = same-of; one = one; room = l },
          subst (SameKind a) (sym kept) (step-kind v.cursor a e),
        )

    -- the limit has passed
    pub perform-late : (step_of v a e).act ≡ act.TimedOut → ((told : Told) (late : Late) → perform n a told late s ≡ late t) × Acts s t
    perform-late is =
        let more : s.sessions.used ≤ (all_acted n a e s.sessions).used = used-more n a e s.sessions v h in
        (λ told late. comes told late act.TimedOut is, record { same = same-of; more = subst (λ m. s.sessions.used ≤ m) (sym used-of) more })

    -- the test departs
    pub perform-departs : (step_of v a e).act ≡ act.Departed → (told : Told) (late : Late) → perform n a told late s ≡ depart t
    perform-departs is told late = comes told late act.Departed is

-- ---- ends

pub departs-with : (s : State) (v : List Line) → v ≡ lines_of s.calls ++ depart_lines s.test.script
    → depart s ≡ ends_with (record { verdict = v; close = Departed }) s
unfolding depart departed_from
departs-with s v e = rw e refl

-- the name of a session is short
pub id-short : (n : ℕ) → n < 2 ^ 32 → length (id_of n) ≤ 1048576
id-short n l =
    let digits : length (decimal n) ≤ 10 = length-decimal-le 10 n (omega arith) (omega arith) (omega arith) in
    omega (arith, digits, length-append (codes "exp") (decimal n))
