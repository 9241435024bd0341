-- Actions on sessions live on.
use Rattle.std.proofs.Common.{◌≡◌, ℕ, suc, zero, ◌+◌, ◌-◌, ◌<◌, ◌≤◌, List, [], ◌∷◌, ◌++◌, length, set, refl, sym, subst, ap, ◌∙◌, arith, codes}
use Rattle.std.specs.Prelude.{Some, slice_get}
use Rattle.dg_transcript.specs.declared.entry.Entry.{Entry}
use Rattle.dg_transcript.specs.declared.cursor.Action.{Action}
use Rattle.dg_transcript.specs.declared.cursor.Action.TheVariants as action
use Rattle.dg_transcript.specs.Output.{output_of}
use Rattle.dg_sessions.specs.Views.{SessionView, most_entries, session_at}
use Rattle.dg_sessions.specs.Phases.{phase_behind}
use Rattle.dg_sessions.specs.Steps.{step_of, acted, opening, with_session}
use Rattle.dg_sessions.specs.declared.phase.Phase.{Phase}
use Rattle.dg_gate.specs.Made.{Made}
use Rattle.dg_world.specs.declared.test_id.TestId.{TestId}
use Rattle.dg_language.specs.Play.{Play}
use Rattle.dg_language.specs.State.{State, with_sessions}
use Rattle.dg_language.specs.Evaluation.{Ending, Then, cut}
use Rattle.dg_language.specs.Sessions.{performing, perform, depart}
use Rattle.dg_living.specs.Living.{ActionFits, LivesOn, entries_at, with_entry}
use Rattle.dg_living.proofs.Admitting.{Place, Allowed, PhaseAt}
use Rattle.dg_living.proofs.Agreeing.{standing, Agrees, AllAgree, agrees-first, agree-push, agree-length, sessions-more, at-end}
use Rattle.dg_living.proofs.Holding.{Holds, transcript}
use Rattle.dg_living.proofs.Steps.{Lives, LivesAfter, aborted-stays}
use Rattle.dg_living.proofs.Acting.{IsRead, Ready, ready, told_state, asks-entry, holds-then, there-then, takes-it, taken-phase, room-then, output-reads}

-- An action on a session of a phase. What is done with an entry knows the session's phase behind it; that the action goes on with
-- what is left of its limit it needs only behind output.
module _ (told : Entry → State → Then → Play Ending → Play Ending) (late : State → Then → Play Ending) (n : ℕ) (p : Phase) (number : 1 ≤ n)
    (IsTold : Entry → Type 0)
    (tells : (e : Entry) (u : State) (w : SessionView) → IsTold e → session_at n u.sessions ≡ Some w → w.phase ≡ phase_behind e p
    → (more : Then → Play Ending) → ((o : ℕ × List ℕ) → output_of e ≡ Some o → Lives u more) → Lives u (λ k. told e u k (more k))) where
  performing-lives : (m : ℕ) (a : Action) (s : State) (v : SessionView) → session_at n s.sessions ≡ Some v → v.phase ≡ p
      → ((q : Place) → PhaseAt p q → Allowed a p q) → ActionFits a → ((e : Entry) → Made a e → IsTold e) → (IsRead a → (e : Entry) → IsTold e)
      → (IsRead a → (u : State) → Lives u (late u)) → m + s.sessions.used ≤ 65536
      → Lives s (λ k. performing m n a (λ e u x. told e u k x) (λ u. late u k) s)
  unfolding performing cut
  performing-lives zero a s v there phase allowed fits makes reads_any passes le =
      record { lives = λ t ss k h after. (aborted-stays (codes "too many transcript entries") s, transcript t s ss h) }
  performing-lives (suc m) a s v there phase allowed fits makes reads_any passes le =
      record {
        lives = λ t ss k h after.
            let may : (q : Agrees v (entries_at (n - 1) ss)) → Allowed a v.phase (standing (entries_at (n - 1) ss)) =
            λ here. subst (λ x. Allowed a x (standing (entries_at (n - 1) ss))) (sym phase)
            (allowed (standing (entries_at (n - 1) ss)) (subst (λ x. PhaseAt x (standing (entries_at (n - 1) ss))) phase here.phase)) in
            let r = ready t s n v a ss h number there may fits (omega (arith, le)) in
            asks-entry t s n v a ss r m (λ e u x. told e u k x) (λ u. late u k)
            (λ e made bytes.
            let u = told_state t s n v a ss r e in
            let phase_then : (acted v a e).phase ≡ phase_behind e p = taken-phase v a e (takes-it t s n v a ss r e made) ∙ ap (phase_behind e) phase in
            (tells e u (acted v a e) (makes e made) (there-then t s n v a ss r e) phase_then
            (λ j. performing m n (step_of v a e).action (λ f w x. told f w j x) (λ w. late w j) u)
            (λ o is.
            let left = output-reads v.cursor a e o is made fits in
            subst (λ b. Lives u (λ j. performing m n b (λ f w x. told f w j x) (λ w. late w j) u)) (sym left.1)
            (performing-lives m (action.Read left.0) u (acted v a e) (there-then t s n v a ss r e) (phase_then ∙ left.3 p)
            (λ q here. left.4 p q (allowed q here)) left.2 (λ f _. reads_any left.5 f) (λ _. reads_any left.5) (λ _. passes left.5) (room-then t s n v a ss r e made m le)))).lives
            t (with_entry (n - 1) e ss) k (holds-then t s n v a ss r e made bytes) after)
            (λ e made bytes reads. (passes reads (told_state t s n v a ss r e)).lives t (with_entry (n - 1) e ss) k (holds-then t s n v a ss r e made bytes) after);
      }

  pub perform-lives : (a : Action) (s : State) (v : SessionView) → session_at n s.sessions ≡ Some v → v.phase ≡ p
      → ((q : Place) → PhaseAt p q → Allowed a p q) → ActionFits a → ((e : Entry) → Made a e → IsTold e) → (IsRead a → (e : Entry) → IsTold e)
      → (IsRead a → (u : State) → Lives u (late u))
      → Lives s (λ k. perform n a (λ e u x. told e u k x) (λ u. late u k) s)
  unfolding perform
  perform-lives a s v there phase allowed fits makes reads_any passes =
      record {
        lives = λ t ss k h after.
            (performing-lives (most_entries - s.sessions.used) a s v there phase allowed fits makes reads_any passes (omega (arith, h.room))).lives t ss k h after;
      }

-- ---- a new session

pushed : (vs : List SessionView) (v : SessionView) → slice_get (vs ++ v ∷ []) (length vs) ≡ Some v
pushed [] v = refl
pushed (x ∷ vs) v = pushed vs v

module _ (words : List (List ℕ)) (fit : ActionFits (action.Spawn words)) (s : State) (few : length s.sessions.all < 64) where
  abbrev number : ℕ
  number = suc (length s.sessions.all)

  abbrev view : SessionView
  view = opening (length s.sessions.all + 1) s.sessions.max

  abbrev begun : State
  begun = with_sessions (with_session s.sessions) s

  first : number - 1 ≡ length s.sessions.all
  first = omega arith

  ready_to_start : (t : TestId) (ss : List (List Entry)) → Holds t s ss → s.sessions.used < 65536 → Ready t begun number view (action.Spawn words) ss
  unfolding with_sessions
  ready_to_start t ss h room =
      record {
        test = h.test;
        past = h.past;
        number = omega arith;
        next = omega (arith, same);
        there = ap (slice_get (s.sessions.all ++ view ∷ [])) first ∙ pushed s.sessions.all view;
        wait = refl;
        place = sym (ap (λ i. length (entries_at i ss)) (first ∙ same) ∙ ap length (at-end ss));
        used = h.used;
        room = room;
        fits = fit;
        few = λ e. omega (arith, sessions-more (number - 1) e ss, same, few);
        onward = λ e w made bytes goes phase.
            subst (λ i. AllAgree (set (s.sessions.all ++ view ∷ []) i w) (with_entry i e ss)) (sym first)
            (agree-push s.sessions.all ss view w e h.agree
            (agrees-first view w words e refl fit made bytes goes phase refl));
      }
    where
      same : length s.sessions.all ≡ length ss
      same = agree-length s.sessions.all ss h.agree

  begun-used : begun.sessions.used ≡ s.sessions.used
  unfolding with_sessions
  begun-used = refl

  begins : (told : Entry → State → Then → Play Ending) → ((e : Entry) (u : State) → Lives u (told e u))
      → (t : TestId) (ss : List (List Entry)) (k : Then) → Holds t s ss → LivesAfter t k → (m : ℕ) → m + s.sessions.used ≤ 65536
      → LivesOn t (performing m number (action.Spawn words) (λ e u more. told e u k) depart begun) ss
  unfolding performing cut
  begins told tells t ss k h after zero le = (aborted-stays (codes "too many transcript entries") begun, transcript t s ss h)
  begins told tells t ss k h after (suc m) le =
      let r = ready_to_start t ss h (omega (arith, le)) in
      asks-entry t begun number view (action.Spawn words) ss r m (λ e u more. told e u k) depart
      (λ e made bytes.
      (tells e (told_state t begun number view (action.Spawn words) ss r e)).lives t (with_entry (number - 1) e ss) k
      (holds-then t begun number view (action.Spawn words) ss r e made bytes) after)
      (λ e made bytes reads. absurd reads)

  pub spawn-lives : (told : Entry → State → Then → Play Ending) → ((e : Entry) (u : State) → Lives u (told e u))
      → Lives s (λ k. perform number (action.Spawn words) (λ e u more. told e u k) depart begun)
  unfolding perform
  spawn-lives told tells =
      record {
        lives = λ t ss k h after. begins told tells t ss k h after (most_entries - begun.sessions.used) (omega (arith, h.room, begun-used));
      }
