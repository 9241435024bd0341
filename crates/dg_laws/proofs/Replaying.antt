-- An action comes to the replay of the entries that a source tells of.
use Rattle.std.proofs.Common.{◌≡◌, ℕ, ◌+◌, ◌-◌, ◌<◌, ◌≤◌, Bool, true, false, cond, List, [], ◌∷◌, length, set, refl, ap, sym, ◌∙◌, subst, ⊎_elim, arith, get_or-set_same, length-set}
use Rattle.std.specs.Prelude.{Option, Some, None, ◌==◌, slice_get}
use Rattle.std.proofs.lemmas.Option.{slice_get-get_or, slice_get_within}
use Rattle.std.proofs.lemmas.Bool.{eq-eqb, ne_eqb}
use Rattle.dg_transcript.specs.declared.entry.Entry.{Entry}
use Rattle.dg_transcript.specs.declared.cursor.Cursor.{Cursor}
use Rattle.dg_transcript.specs.declared.cursor.Act.{Act}
use Rattle.dg_transcript.specs.declared.cursor.Act.TheVariants as act
use Rattle.dg_transcript.specs.declared.cursor.Action.{Action}
use Rattle.dg_transcript.specs.Replay.{Left, Outcome, answered, timed_out, departed, replay, buffer_behind, stepped, steps}
use Rattle.dg_transcript.proofs.Replaying.{steps_replay}
use Rattle.dg_sessions.specs.Views.{SessionView, SessionsView, most_entries, session_at}
use Rattle.dg_sessions.specs.Phases.{phase_behind}
use Rattle.dg_sessions.specs.Steps.{with_chunk, step_of, behind, acted, acted_at, all_acted, used_between}
use Rattle.dg_sessions.proofs.StepLemmas.{UsesUp, RestsBy, one_used, step_goes, step_rests, acted_answered, acted_wants, acted_timed_out}
use Rattle.dg_world.specs.declared.question.Question.{Question}
use Rattle.dg_world.specs.declared.question.Answer.{Answer}
use Rattle.dg_world.specs.declared.question.Answer.TheVariants as answer
use Rattle.dg_world.specs.declared.question.Read.{Read}
use Rattle.dg_world.specs.Question.{same_question}
use Rattle.dg_language.specs.declared.ask.Ask.{Ask}
use Rattle.dg_language.specs.Play.{Play, Source, heard, on_answer, GivesEach, lookup, run}
use Rattle.dg_language.specs.State.{State, learn, with_sessions}
use Rattle.dg_language.specs.Evaluation.{Ending}
use Rattle.dg_language.specs.Arguments.{on}
use Rattle.dg_language.specs.Sessions.{Told, Late, depart, entry_for, hear_for, ask_for, entry_in, come_to, at_entry, perform}
use Rattle.dg_language.proofs.Asking.{same_question-true}
use Rattle.dg_language.proofs.Once.{gives-append}
use Rattle.dg_language.proofs.Performing.{perform-first}
use Rattle.dg_laws.specs.Replays.{Tells, Stands, OnlySessions, ComesTo, ActionsAreReplayed}

some-same : (a b : Answer) → Some a ≡ Some b → a ≡ b
some-same a b e = cc

-- what was answered is what the source gives
lookup-given : (look : Source) (q : Question) (rs : List Read) (a : Answer) → GivesEach look rs → lookup q rs ≡ Some a → heard q (look q) ≡ Some a
unfolding lookup
lookup-given look q [] a known e = cc
lookup-given look q (r ∷ rs) a known e = go (same_question r.question q) refl e (λ h. lookup-given look q rs a known.1 h)
  where
    go : (b : Bool) → same_question r.question q ≡ b → (elim b as (λ _. Option Answer) [ true ↦ Some r.answer | false ↦ lookup q rs ]) ≡ Some a
        → (lookup q rs ≡ Some a → heard q (look q) ≡ Some a) → heard q (look q) ≡ Some a
    go true same h more = subst (λ (x : Question). heard x (look x) ≡ Some a) (same_question-true r.question q same) (known.0 ∙ h)
    go false same h more = more h

-- where a question goes on to that the source answers
record Heard (look : Source) (s : State) (before : Play Ending) (f : State → Play Ending) : Type 0 where
  then : State
  runs : run look before ≡ run look (f then)
  only : OnlySessions s then
  sessions : then.sessions ≡ s.sessions
  test : then.test ≡ s.test
  given : GivesEach look then.known

ask_for-heard : (look : Source) (q : Ask) (a : Answer) (s : State) (f : Answer → State → Play Ending) → GivesEach look s.known
    → heard q.question (look q.question) ≡ Some a → Heard look s (ask_for q s f) (f a)
unfolding ask_for learn
ask_for-heard look q a s f known told = go (lookup q.question s.known) refl
  where
    go : (o : Option Answer) → lookup q.question s.known ≡ o → Heard look s (hear_for o q s f) (f a)
    go (Some b) is =
        let same : b ≡ a = some-same b a (sym (lookup-given look q.question s.known b known is) ∙ told) in
        record { then = s; runs = ap (λ x. run look (f x s)) same; only = refl; sessions = refl; test = refl; given = known }
    go None is = record {
      then = learn q.question a s;
      runs = ap (λ o. on_answer q o (λ x. run look (f x (learn q.question x s)))) told;
      only = refl;
      sessions = refl;
      test = refl;
      given = gives-append look s.known (record { question = q.question; answer = a }) known told;
    }

set-there : (xs : List SessionView) (i : ℕ) (x y : SessionView) → slice_get xs i ≡ Some x → slice_get (set xs i y) i ≡ Some y
set-there xs i x y there =
    let within : i < length xs = slice_get_within xs i x there in
    let still : i < length (set xs i y) = omega (arith, length-set xs i y) in
    slice_get-get_or (set xs i y) i y still ∙ ap (λ v. Some v) (get_or-set_same xs i y y within)

module _ (n : ℕ) (a : Action) (e : Entry) where
  acted-there : (ss : SessionsView) (v : SessionView) → session_at n ss ≡ Some v → session_at n (all_acted n a e ss) ≡ Some (acted v a e)
  acted-there ss v there =
      ap (λ o. session_at n (acted_at n a e ss o)) there ∙ set-there ss.all (n - 1) v (acted v a e) there

  acted-used : (ss : SessionsView) (v : SessionView) → session_at n ss ≡ Some v
      → (all_acted n a e ss).used ≡ ss.used + used_between v (acted v a e)
  acted-used ss v there = ap (λ o. (acted_at n a e ss o).used) there

  at_entry-only : (s t : State) → OnlySessions s t → OnlySessions s (at_entry n a e t)
  unfolding with_sessions
  at_entry-only s t only = ap (λ (x : State). record x { known = t.known; sessions = all_acted n a e t.sessions }) only

  at_entry-sessions : (t : State) → (at_entry n a e t).sessions ≡ all_acted n a e t.sessions
  unfolding with_sessions
  at_entry-sessions t = refl

  at_entry-known : (t : State) → (at_entry n a e t).known ≡ t.known
  unfolding with_sessions
  at_entry-known t = refl

  at_entry-test : (t : State) → (at_entry n a e t).test ≡ t.test
  unfolding with_sessions
  at_entry-test t = refl

-- a session of whose record these entries are left, and the source tells of them
record Holds (look : Source) (n : ℕ) (s : State) (es : List Entry) : Type 0 where
  given : GivesEach look s.known
  session : SessionView
  there : session_at n s.sessions ≡ Some session
  tells : Tells look s.test n session.cursor.place es
  room : s.sessions.used + length es < most_entries
  within : session.cursor.place + length es ≤ 65536

pub only-only : (s t u : State) → OnlySessions s t → OnlySessions t u → OnlySessions s u
only-only s t u st tu = tu ∙ ap (λ (x : State). record x { known = u.known; sessions = u.sessions }) st

module _ (look : Source) (n : ℕ) (told : Told) (late : Late) where
  comes-along : (max : ℕ) (s t : State) (play other : Play Ending) (o : Outcome) → run look play ≡ run look other → OnlySessions s t
      → ComesTo look n max told late t other o → ComesTo look n max told late s play o
  comes-along max s t play other (answered e l a) same only (u, runs, more, stands) = (u, same ∙ runs, only-only s t u only more, stands)
  comes-along max s t play other (timed_out l) same only (u, runs, more, stands) = (u, same ∙ runs, only-only s t u only more, stands)
  comes-along max s t play other departed same only (u, runs, more) = (u, same ∙ runs, only-only s t u only more)

  -- what an action goes on with at an answer
  abbrev next : SessionView → Action → Answer → State → Play Ending
  next v a x t =
      on (entry_in x) (depart t) (λ e. come_to (step_of v a e).act e told late (at_entry n a e t) (perform n (step_of v a e).action told late (at_entry n a e t)))

  reached : (a : Action) (s : State) (v : SessionView) (x : Answer) → session_at n s.sessions ≡ Some v → s.sessions.used < most_entries → GivesEach look s.known
      → heard (entry_for n v a s).question (look (entry_for n v a s).question) ≡ Some x
      → Heard look s (perform n a told late s) (next v a x)
  reached a s v x there room known told_x =
      let asked = ask_for-heard look (entry_for n v a s) x s (next v a) known told_x in
      record {
        then = asked.then;
        runs =
            ap (run look) (perform-first n a told late s room)
            ∙ ap (λ o. run look (on o (depart s) (λ w. ask_for (entry_for n w a s) s (next w a)))) there
            ∙ asked.runs;
        only = asked.only;
        sessions = asked.sessions;
        test = asked.test;
        given = asked.given;
      }

  comes : (es : List Entry) (a : Action) (s : State) (h : Holds look n s es)
      → ComesTo look n h.session.max told late s (perform n a told late s) (steps (with_chunk h.session.max) h.session.cursor a h.session.buffer es)
  comes [] a s h =
      let r = reached a s h.session answer.Ended h.there (omega (arith, h.room)) h.given (ap (heard (entry_for n h.session a s).question) h.tells) in
      (r.then, r.runs, r.only)
  comes (e ∷ es) a s h = by_act (step_of v a e).act refl r.runs (λ b t g. comes es b t g)
    where
      v : SessionView
      v = h.session

      r : Heard look s (perform n a told late s) (next v a (answer.Entry e))
      r = reached a s v (answer.Entry e) h.there (omega (arith, h.room)) h.given (ap (heard (entry_for n v a s).question) h.tells.0)

      u : State
      u = at_entry n a e r.then

      new : List ℕ
      new = buffer_behind (with_chunk v.max) a e v.buffer

      u_only : OnlySessions s u
      u_only = at_entry-only n a e s r.then r.only

      u_sessions : u.sessions ≡ all_acted n a e s.sessions
      u_sessions = at_entry-sessions n a e r.then ∙ ap (all_acted n a e) r.sessions

      u_there : session_at n u.sessions ≡ Some (acted v a e)
      u_there = ap (session_at n) u_sessions ∙ acted-there n a e s.sessions v h.there

      u_used : u.sessions.used ≡ s.sessions.used + used_between v (acted v a e)
      u_used = ap (λ x. x.used) u_sessions ∙ acted-used n a e s.sessions v h.there

      u_given : GivesEach look u.known
      u_given = subst (GivesEach look) (sym (at_entry-known n a e r.then)) r.given

      u_test : u.test ≡ s.test
      u_test = at_entry-test n a e r.then ∙ r.test

      tells-at : (place : ℕ) → place ≡ v.cursor.place + 1 → Tells look u.test n place es
      tells-at place is =
          subst (λ t. Tells look t n place es) (sym u_test) (subst (λ p. Tells look s.test n p es) (sym is) h.tells.1)

      one : UsesUp (step_of v a e).act → u.sessions.used ≡ s.sessions.used + 1
      one uses = u_used ∙ ap (λ k. s.sessions.used + k) (one_used v a e uses)

      by_act : (x : Act) → (step_of v a e).act ≡ x
          → run look (perform n a told late s) ≡ run look (come_to x e told late u (perform n (step_of v a e).action told late u))
          → ((b : Action) (t : State) (g : Holds look n t es)
          → ComesTo look n g.session.max told late t (perform n b told late t) (steps (with_chunk g.session.max) g.session.cursor b g.session.buffer es))
          → ComesTo look n v.max told late s (perform n a told late s)
          (stepped x v.cursor (step_of v a e) e es v.buffer new (steps (with_chunk v.max) (step_of v a e).cursor (step_of v a e).action new es))
      by_act act.Answered is runs more =
          let uses : UsesUp (step_of v a e).act = subst UsesUp (sym is) tt in
          let on_place = step_goes v a e uses in (
            u,
            runs,
            u_only,
            record {
              given = u_given;
              session = record (behind v a e) { phase = phase_behind e v.phase };
              there = u_there ∙ ap (λ w. Some w) (acted_answered v a e is);
              wait = subst (λ x. RestsBy x v.cursor (step_of v a e).cursor) is (step_rests v a e);
              buffer = refl;
              kept = refl;
              tells = tells-at (step_of v a e).cursor.place on_place;
              room = omega (arith, h.room, one uses);
              within = omega (arith, h.within, on_place);
            },
          )
      by_act (act.Wants k) is runs more =
          let uses : UsesUp (step_of v a e).act = subst UsesUp (sym is) tt in
          let on_place = step_goes v a e uses in
          comes-along v.max s u (perform n a told late s) (perform n (step_of v a e).action told late u) _ runs u_only
          (more (step_of v a e).action u (record {
            given = u_given;
            session = behind v a e;
            there = u_there ∙ ap (λ w. Some w) (acted_wants v a e k is);
            tells = tells-at (step_of v a e).cursor.place on_place;
            room = omega (arith, h.room, one uses);
            within = omega (arith, h.within, on_place);
          }))
      by_act act.TimedOut is runs more =
          (u, runs, u_only, ⊎_elim late_here late_behind (subst (λ x. RestsBy x v.cursor (step_of v a e).cursor) is (step_rests v a e)))
        where
          c' : Cursor
          c' = (step_of v a e).cursor

          place-kept : (acted v a e).cursor.place ≡ c'.place
          place-kept = ap (λ w. w.cursor.place) (acted_timed_out v a e is)

          left_by : Bool → Left
          left_by b = record { entries = cond b (e ∷ es) es; wait = c'.wait; buffer = v.buffer }

          late_here : c'.place ≡ v.cursor.place → Stands look n v.max u (left_by (c'.place == v.cursor.place))
          late_here same = subst (λ b. Stands look n v.max u (left_by b)) (sym (eq-eqb c'.place v.cursor.place same)) (record {
            given = u_given;
            session = record v { cursor = c' };
            there = u_there ∙ ap (λ w. Some w) (acted_timed_out v a e is);
            wait = refl;
            buffer = refl;
            kept = refl;
            tells = subst (λ t. Tells look t n c'.place (e ∷ es)) (sym u_test) (subst (λ p. Tells look s.test n p (e ∷ es)) (sym same) h.tells);
            room = omega (arith, h.room, u_used, place-kept, same);
            within = omega (arith, h.within, same);
          })

          late_behind : c'.place ≡ v.cursor.place + 1 → Stands look n v.max u (left_by (c'.place == v.cursor.place))
          late_behind next_place = subst (λ b. Stands look n v.max u (left_by b)) (sym (ne_eqb c'.place v.cursor.place (λ q. omega arith))) (record {
            given = u_given;
            session = record v { cursor = c' };
            there = u_there ∙ ap (λ w. Some w) (acted_timed_out v a e is);
            wait = refl;
            buffer = refl;
            kept = refl;
            tells = tells-at c'.place next_place;
            room = omega (arith, h.room, u_used, place-kept, next_place);
            within = omega (arith, h.within, next_place);
          })
      by_act act.Departed is runs more = (u, runs, u_only)

pub actions_replayed : ActionsAreReplayed
actions_replayed look n max a told late s l st =
    let add = with_chunk st.session.max in
    let whole : steps add st.session.cursor a st.session.buffer l.entries ≡ replay add a l =
    steps_replay add st.session.cursor a st.session.buffer l.entries st.within
    ∙ ap (λ w. replay add a (record { entries = l.entries; wait = w; buffer = st.session.buffer })) st.wait
    ∙ ap (λ b. replay add a (record { entries = l.entries; wait = l.wait; buffer = b })) st.buffer in
    subst (λ m. ComesTo look n m told late s (perform n a told late s) (replay (with_chunk m) a l)) st.kept
    (subst (λ o. ComesTo look n st.session.max told late s (perform n a told late s) o) whole
    (comes look n told late l.entries a s
    (record { given = st.given; session = st.session; there = st.there; tells = st.tells; room = st.room; within = st.within })))
