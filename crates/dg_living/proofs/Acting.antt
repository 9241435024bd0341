-- What an action on a session comes to where gates answer it: the entry is taken, and nothing departs.
use Rattle.std.proofs.Common.{◌≡◌, ℕ, suc, ◌+◌, ◌-◌, ◌<◌, ◌≤◌, Bool, true, false, cond, List, [], ◌∷◌, ◌++◌, length, set, refl, sym, subst, ap, ◌∙◌, ⊎_elim, arith, sum_by, get_or-set_same, length-set}
use Rattle.std.specs.Prelude.{Some, None, nat_lt, nat_le, unwrap_or}
use Rattle.std.proofs.lemmas.Option.{slice_get-get_or, slice_get_within}
use Rattle.dg_transcript.specs.declared.entry.Entry.{Entry}
use Rattle.dg_transcript.specs.declared.entry.Entry.TheVariants as entry
use Rattle.dg_transcript.specs.declared.cursor.Cursor.{Cursor}
use Rattle.dg_transcript.specs.declared.cursor.Act.{Act}
use Rattle.dg_transcript.specs.declared.cursor.Act.TheVariants as act
use Rattle.dg_transcript.specs.declared.cursor.Action.{Action}
use Rattle.dg_transcript.specs.declared.cursor.Action.TheVariants as action
use Rattle.dg_transcript.specs.Output.{output_of}
use Rattle.dg_transcript.specs.Step.{step, gone_on, departs, arrives, answers, waiting}
use Rattle.dg_transcript.proofs.Lists.{All-push}
use Rattle.dg_sessions.specs.Views.{SessionView, session_at}
use Rattle.dg_sessions.specs.Phases.{phase_behind}
use Rattle.dg_sessions.specs.Steps.{step_of, acted, acted_at, used_between}
use Rattle.dg_sessions.specs.declared.phase.Phase.{Phase}
use Rattle.dg_sessions.proofs.StepLemmas.{acted_answered, acted_timed_out}
use Rattle.dg_gate.specs.Made.{Made, Takes}
use Rattle.dg_gate.proofs.Taking.{takes}
use Rattle.dg_world.specs.declared.question.Question.{Question}
use Rattle.dg_world.specs.declared.question.Question.TheVariants as question
use Rattle.dg_world.specs.declared.question.Answer.{Answer}
use Rattle.dg_world.specs.declared.question.Answer.TheVariants as answer
use Rattle.dg_world.specs.declared.test_id.TestId.{TestId}
use Rattle.dg_language.specs.Play.{Play}
use Rattle.dg_language.specs.State.{State, learn, with_sessions}
use Rattle.dg_language.specs.Evaluation.{Ending}
use Rattle.dg_language.specs.Arguments.{on}
use Rattle.dg_language.specs.Sessions.{Told, Late, depart, entry_for, hear_for, ask_for, entry_in, come_to, at_entry, performing}
use Rattle.dg_living.specs.Living.{IsOfBytes, ActionFits, AsksNext, LivesOn, entries_at, with_entry}
use Rattle.dg_living.proofs.Admitting.{Place, Allowed}
use Rattle.dg_living.proofs.Agreeing.{standing, Agrees, AllAgree, agrees-more, agree-at, agree-set, agree-length, sum-more, sessions-same, at-le-sum, at-one_more}
use Rattle.dg_living.proofs.Holding.{IsPast, ArePast, Holds, all-past-more, not-known}

-- ---- the session behind a made entry

pub taken-cursor : (v : SessionView) (a : Action) (e : Entry) → Takes v.cursor a e → (acted v a e).cursor ≡ gone_on v.cursor
taken-cursor v a e t =
    ⊎_elim
    (λ yes. ap (λ w. w.cursor) (acted_answered v a e yes.0) ∙ yes.1)
    (λ late. ap (λ w. w.cursor) (acted_timed_out v a e late.0) ∙ late.1) t

silent-phase : (e : Entry) (limit : ℕ) (p : Phase) → e ≡ entry.Silence limit → phase_behind e p ≡ p
silent-phase e limit p is = ap (λ x. phase_behind x p) is

pub taken-phase : (v : SessionView) (a : Action) (e : Entry) → Takes v.cursor a e → (acted v a e).phase ≡ phase_behind e v.phase
taken-phase v a e t =
    ⊎_elim
    (λ yes. ap (λ w. w.phase) (acted_answered v a e yes.0))
    (λ late. ap (λ w. w.phase) (acted_timed_out v a e late.0) ∙ sym (silent-phase e late.3.0 v.phase late.3.2)) t

abbrev pub IsRead : Action → Type 0
IsRead (action.Read limit) = Unit {0}
IsRead a = ⊥

-- ---- the question for an entry, and the state behind it

-- An action on session n, where it stands behind its entries so far. What holds of the sessions behind each entry that may come
-- is said by `onward`.
pub record Ready (t : TestId) (s : State) (n : ℕ) (v : SessionView) (a : Action) (ss : List (List Entry)) : Type 0 where
  pub test : s.test ≡ t
  pub past : ArePast ss s.known
  pub number : 1 ≤ n
  pub next : n ≤ length ss + 1
  pub there : session_at n s.sessions ≡ Some v
  pub wait : v.cursor.wait ≡ None
  pub place : v.cursor.place ≡ length (entries_at (n - 1) ss)
  pub used : s.sessions.used ≡ sum_by length ss
  pub room : s.sessions.used < 65536
  pub fits : ActionFits a
  pub few : (e : Entry) → length (with_entry (n - 1) e ss) ≤ 64
  pub onward : (e : Entry) (w : SessionView) → Made a e → IsOfBytes e → w.cursor ≡ gone_on v.cursor → w.phase ≡ phase_behind e v.phase
      → AllAgree (set s.sessions.all (n - 1) w) (with_entry (n - 1) e ss)

module _ (t : TestId) (s : State) (n : ℕ) (v : SessionView) (a : Action) (ss : List (List Entry)) (r : Ready t s n v a ss) where
  abbrev pub asked : Question
  asked = question.Entry (record { test = s.test; session = n; place = v.cursor.place })

  -- the state once the entry was told and the session has come to it
  abbrev pub told_state : Entry → State
  told_state e = at_entry n a e (learn asked (answer.Entry e) s)

  small : v.cursor.place < 65536
  small = omega (arith, r.place, at-le-sum (n - 1) ss, r.used, r.room)

  pub takes-it : (e : Entry) → Made a e → Takes v.cursor a e
  takes-it e made = takes v.cursor a e r.wait small made

  sessions-then : (e : Entry) → (told_state e).sessions
      ≡ record s.sessions { all = set s.sessions.all (n - 1) (acted v a e); used = s.sessions.used + used_between v (acted v a e) }
  unfolding with_sessions learn
  sessions-then e = ap (acted_at n a e s.sessions) r.there

  known-then : (e : Entry) → (told_state e).known ≡ s.known ++ record { question = asked; answer = answer.Entry e } ∷ []
  unfolding with_sessions learn
  known-then e = refl

  test-then : (e : Entry) → (told_state e).test ≡ s.test
  unfolding with_sessions learn
  test-then e = refl

  one-used : (e : Entry) → Made a e → used_between v (acted v a e) ≡ 1
  one-used e made =
      let on_place : (acted v a e).cursor.place ≡ v.cursor.place + 1 = ap (λ c. c.place) (taken-cursor v a e (takes-it e made)) in
      omega (arith, on_place)

  used-then : (e : Entry) → Made a e → (told_state e).sessions.used ≡ s.sessions.used + 1
  used-then e made = ap (λ x. x.used) (sessions-then e) ∙ ap (λ m. s.sessions.used + m) (one-used e made)

  pub room-then : (e : Entry) → Made a e → (m : ℕ) → suc m + s.sessions.used ≤ 65536 → m + (told_state e).sessions.used ≤ 65536
  room-then e made m le = omega (arith, used-then e made, le)

  past-now : (e : Entry) → IsPast (with_entry (n - 1) e ss) asked
  past-now e = omega (arith, r.place, r.next, r.number, at-one_more (n - 1) e ss (omega (arith, r.next, r.number)))

  pub holds-then : (e : Entry) → Made a e → IsOfBytes e → Holds t (told_state e) (with_entry (n - 1) e ss)
  holds-then e made bytes =
      record {
        test = test-then e ∙ r.test;
        past =
            subst (ArePast (with_entry (n - 1) e ss)) (sym (known-then e))
            (All-push (λ x. IsPast (with_entry (n - 1) e ss) x.question) s.known (record { question = asked; answer = answer.Entry e })
            (all-past-more (n - 1) e ss s.known r.past) (past-now e));
        agree =
            subst (λ x. AllAgree x.all (with_entry (n - 1) e ss)) (sym (sessions-then e))
            (r.onward e (acted v a e) made bytes (taken-cursor v a e (takes-it e made)) (taken-phase v a e (takes-it e made)));
        used = used-then e made ∙ ap (λ m. m + 1) r.used ∙ sym (sum-more (n - 1) e ss);
        room = omega (arith, used-then e made, r.room);
        few = r.few e;
      }

  within-all : n - 1 < length s.sessions.all
  within-all = slice_get_within s.sessions.all (n - 1) v r.there

  pub there-then : (e : Entry) → session_at n (told_state e).sessions ≡ Some (acted v a e)
  there-then e =
      ap (session_at n) (sessions-then e)
      ∙ slice_get-get_or (set s.sessions.all (n - 1) (acted v a e)) (n - 1) (acted v a e) (omega (arith, within-all, length-set s.sessions.all (n - 1) (acted v a e)))
      ∙ ap (λ w. Some w) (get_or-set_same s.sessions.all (n - 1) (acted v a e) (acted v a e) within-all)

  -- what an action goes on with at an answer
  abbrev going_on : ℕ → Told → Late → Answer → State → Play Ending
  going_on m told late x u =
      on (entry_in x) (depart u) (λ e. come_to (step_of v a e).act e told late (at_entry n a e u) (performing m n (step_of v a e).action told late (at_entry n a e u)))

  -- An action that may ask lives on, where what is done with the entry and what is done in the end do.
  pub asks-entry : (m : ℕ) (told : Told) (late : Late)
      → ((e : Entry) → Made a e → IsOfBytes e
      → LivesOn t (told e (told_state e) (performing m n (step_of v a e).action told late (told_state e))) (with_entry (n - 1) e ss))
      → ((e : Entry) → Made a e → IsOfBytes e → IsRead a → LivesOn t (late (told_state e)) (with_entry (n - 1) e ss))
      → LivesOn t (performing (suc m) n a told late s) ss
  unfolding performing ask_for
  asks-entry m told late answered passed =
      subst (λ o. LivesOn t (on o (depart s) (λ w. ask_for (entry_for n w a s) s (λ heard u.
      on (entry_in heard) (depart u) (λ e. come_to (step_of w a e).act e told late (at_entry n a e u) (performing m n (step_of w a e).action told late (at_entry n a e u)))))) ss)
      (sym r.there)
      (subst (λ o. LivesOn t (hear_for o (entry_for n v a s) s (going_on m told late)) ss)
      (sym (not-known s.test n v.cursor.place ss s.known r.place r.past))
      (n, next, fewer, r.fits, each))
    where
      next : AsksNext t ss asked n
      next = (r.number, r.next, λ i. question.Entry (record { test = r.test i; session = n; place = r.place i }))

      fewer : sum_by length ss < 65536
      fewer = omega (arith, r.used, r.room)

      -- by what the step at the entry is
      by_act : (e : Entry) (x : Act) (play : Play Ending) → (step_of v a e).act ≡ x
          → LivesOn t (come_to x e told late (told_state e) play) (with_entry (n - 1) e ss)
          → LivesOn t (come_to (step_of v a e).act e told late (told_state e) play) (with_entry (n - 1) e ss)
      by_act e x play is l = subst (λ y. LivesOn t (come_to y e told late (told_state e) play) (with_entry (n - 1) e ss)) (sym is) l

      each : (e : Entry) → Made a e → IsOfBytes e → LivesOn t (going_on m told late (answer.Entry e) (learn asked (answer.Entry e) s)) (with_entry (n - 1) e ss)
      each e made bytes =
          ⊎_elim
          (λ yes. by_act e act.Answered (performing m n (step_of v a e).action told late (told_state e)) yes.0 (answered e made bytes))
          (λ out. by_act e act.TimedOut (performing m n (step_of v a e).action told late (told_state e)) out.0 (passed e made bytes (subst IsRead (sym out.3.1) tt))) (takes-it e made)

-- ---- sessions that there are

-- a session that agrees with its entries may be asked
pub ready : (t : TestId) (s : State) (n : ℕ) (v : SessionView) (a : Action) (ss : List (List Entry)) → Holds t s ss → 1 ≤ n
    → session_at n s.sessions ≡ Some v → ((q : Agrees v (entries_at (n - 1) ss)) → Allowed a v.phase (standing (entries_at (n - 1) ss)))
    → ActionFits a → s.sessions.used < 65536 → Ready t s n v a ss
ready t s n v a ss h number there allowed fits room =
    record {
      test = h.test;
      past = h.past;
      number = number;
      next = omega (arith, within);
      there = there;
      wait = here.wait;
      place = here.place;
      used = h.used;
      room = room;
      fits = fits;
      few = λ e. omega (arith, sessions-same (n - 1) e ss within, h.few);
      onward = λ e w made bytes goes phase.
          agree-set s.sessions.all ss (n - 1) v w e h.agree there
          (agrees-more v w (entries_at (n - 1) ss) a e here (allowed here) fits made bytes goes phase);
    }
  where
    here : Agrees v (entries_at (n - 1) ss)
    here = agree-at s.sessions.all ss (n - 1) v h.agree there

    within : n - 1 < length ss
    within = omega (arith, slice_get_within s.sessions.all (n - 1) v there, agree-length s.sessions.all ss h.agree)

-- ---- what is left of a read

-- an action whose limit is no longer
abbrev pub StillReads : ℕ → Action → Type 0
StillReads limit b = (m : ℕ) × (b ≡ action.Read m) × (m ≤ limit)

arrives-reads : (b : Bool) (c : Cursor) (limit left : ℕ)
    → StillReads limit (cond b (answers c (action.Read (limit - left))) (record { act = act.TimedOut; cursor = waiting c (left - limit); action = action.Read 0 })).action
arrives-reads true c limit left = (limit - left, refl, omega arith)
arrives-reads false c limit left = (0, refl, omega arith)

step-reads : (b : Bool) (c : Cursor) (limit wait : ℕ) → StillReads limit (cond b (arrives c limit wait) (departs c (action.Read limit))).action
step-reads true c limit wait = arrives-reads (nat_le (unwrap_or c.wait wait) limit) c limit (unwrap_or c.wait wait)
step-reads false c limit wait = (limit, refl, omega arith)

-- output answers a read alone, and leaves a read
pub output-reads : (c : Cursor) (a : Action) (e : Entry) (o : ℕ × List ℕ) → output_of e ≡ Some o → Made a e → ActionFits a
    → (m : ℕ) × ((step c a (Some e)).action ≡ action.Read m) × (m ≤ 3600000) × ((p : Phase) → phase_behind e p ≡ p)
    × ((p : Phase) (q : Place) → Allowed a p q → Allowed (action.Read m) p q) × IsRead a
output-reads c (action.Read limit) (entry.Chunk wait bytes) o is made fits =
    let still = step-reads (nat_lt c.place 65536) c limit wait in (still.0, still.1, omega (arith, still.2, fits), λ p. refl, λ p q may. may, tt)
output-reads c (action.Spawn words) (entry.Chunk wait bytes) o is made fits = absurd made
output-reads c (action.Send text) (entry.Chunk wait bytes) o is made fits = absurd made
output-reads c action.Close (entry.Chunk wait bytes) o is made fits = absurd made
output-reads c action.Wait (entry.Chunk wait bytes) o is made fits = absurd made
output-reads c a e o is made fits = absurd cc
