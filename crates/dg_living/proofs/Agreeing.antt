-- Sessions stand where their entries so far say.
use Rattle.std.proofs.Common.{◌≡◌, ℕ, zero, suc, ◌+◌, ◌<◌, ◌≤◌, true, List, [], ◌∷◌, ◌++◌, length, set, refl, sym, subst, ap, ◌∙◌, arith, length-append, sum_by}
use Rattle.std.specs.Prelude.{Some, None, slice_get}
use Rattle.std.proofs.lemmas.Option.{same_Some}
use Rattle.std.specs.List.{AllByRecursion}
use Rattle.std.proofs.lemmas.List.Sums.{sum_by-cons}
use Rattle.dg_transcript.specs.declared.entry.Entry.{Entry}
use Rattle.dg_transcript.specs.declared.entry.Entry.TheVariants as entry
use Rattle.dg_transcript.specs.declared.cursor.Action.{Action}
use Rattle.dg_transcript.specs.declared.cursor.Action.TheVariants as action
use Rattle.dg_transcript.specs.Lines.{place_of}
use Rattle.dg_transcript.specs.Text.{sessions_lines}
use Rattle.dg_transcript.specs.Order.{role_of, admits, after_role}
use Rattle.dg_transcript.specs.Limits.{EntryFits, in_order, IsSession}
use Rattle.dg_transcript.specs.Step.{gone_on}
use Rattle.dg_transcript.proofs.Limiting.{place_from, in_order-append, place_from-push}
use Rattle.dg_transcript.proofs.Lists.{All-push}
use Rattle.dg_sessions.specs.Views.{SessionView}
use Rattle.dg_sessions.specs.declared.phase.Phase.TheVariants.{Unstarted}
use Rattle.dg_sessions.specs.Phases.{phase_behind}
use Rattle.dg_gate.specs.Made.{Made}
use Rattle.dg_living.specs.Living.{IsOfBytes, ActionFits, entries_at, with_entry}
use Rattle.dg_living.proofs.Admitting.{Place, PhaseAt, Allowed, admitted, made-fits}

-- the place behind the entries of a session that has begun
abbrev pub standing : List Entry → Place
standing [] = after_role (role_of entry.Closed)
standing (e ∷ es) = place_from (after_role (role_of e)) es

-- A session whose entries so far are these: all are used up, and its phase is where they lead to.
pub record Agrees (v : SessionView) (es : List Entry) : Type 0 where
  pub wait : v.cursor.wait ≡ None
  pub place : v.cursor.place ≡ length es
  pub phase : PhaseAt v.phase (standing es)
  pub session : IsSession es

abbrev pub AllAgree : List SessionView → List (List Entry) → Type 0
AllAgree [] [] = Unit {0}
AllAgree [] (es ∷ ss) = ⊥
AllAgree (v ∷ vs) [] = ⊥
AllAgree (v ∷ vs) (es ∷ ss) = Agrees v es × AllAgree vs ss

standing-push : (es : List Entry) (e : Entry) → standing (es ++ e ∷ []) ≡ after_role (role_of e)
standing-push [] e = refl
standing-push (x ∷ es) e = place_from-push (after_role (role_of x)) es e

joined : (p : Place) (es : List Entry) (e : Entry) → in_order p es ≡ true → admits (place_from p es) (role_of e) ≡ true
    → in_order p (es ++ e ∷ []) ≡ true
joined p es e ordered may = in_order-append p es (e ∷ []) ∙ rw (ordered, may) refl

session-more : (es : List Entry) (e : Entry) → IsSession es → admits (standing es) (role_of e) ≡ true → EntryFits e → IsSession (es ++ e ∷ [])
unfolding sessions_lines
session-more [] e session may fits = absurd (omega (arith, session.0))
session-more (x ∷ es) e session may fits = (
  omega arith,
  joined (place_of (sessions_lines 1 ([] ∷ []))) (x ∷ es) e session.1 may,
  All-push EntryFits (x ∷ es) e session.2 fits,
)

-- one more entry of a session
pub agrees-more : (v w : SessionView) (es : List Entry) (a : Action) (e : Entry) → Agrees v es → Allowed a v.phase (standing es) → ActionFits a
    → Made a e → IsOfBytes e → w.cursor ≡ gone_on v.cursor → w.phase ≡ phase_behind e v.phase → Agrees w (es ++ e ∷ [])
agrees-more v w es a e before allowed fit made bytes goes phase =
    let may = admitted a e v.phase (standing es) allowed made in
    let on_place : w.cursor.place ≡ v.cursor.place + 1 = ap (λ c. c.place) goes in
    record {
      wait = ap (λ c. c.wait) goes;
      place = omega (arith, on_place, before.place, length-append es (e ∷ []));
      phase =
          subst (λ q. PhaseAt w.phase q) (sym (standing-push es e))
          (subst (λ p. PhaseAt p (after_role (role_of e))) (sym phase) may.1);
      session = session-more es e before.session may.0 (made-fits a e fit made bytes);
    }

first-agrees : (w : SessionView) (e : Entry) → w.cursor.wait ≡ None → w.cursor.place ≡ 1 → PhaseAt w.phase (standing (e ∷ [])) → IsSession (e ∷ [])
    → Agrees w (e ∷ [])
first-agrees w e wait at_one phase session = record { wait = wait; place = at_one; phase = phase; session = session }

-- the first entry of a session
pub agrees-first : (v w : SessionView) (words : List (List ℕ)) (e : Entry) → v.cursor.place ≡ 0 → ActionFits (action.Spawn words)
    → Made (action.Spawn words) e → IsOfBytes e → w.cursor ≡ gone_on v.cursor → w.phase ≡ phase_behind e v.phase → v.phase ≡ Unstarted
    → Agrees w (e ∷ [])
agrees-first v w words e at_none fit made bytes goes phase unstarted =
    first-agrees w e (ap (λ c. c.wait) goes) (omega (arith, on_place, at_none))
    (subst (λ p. PhaseAt p (standing (e ∷ []))) (sym (phase ∙ ap (phase_behind e) unstarted)) (where_stands e made))
    (session e made (made-fits (action.Spawn words) e fit made bytes))
  where
    on_place : w.cursor.place ≡ v.cursor.place + 1
    on_place = ap (λ c. c.place) goes

    where_stands : (e : Entry) → Made (action.Spawn words) e → PhaseAt (phase_behind e Unstarted) (standing (e ∷ []))
    where_stands (entry.Started given) made = refl
    where_stands (entry.NoStart code given) made = tt
    where_stands e made = absurd made

    session : (e : Entry) → Made (action.Spawn words) e → EntryFits e → IsSession (e ∷ [])
    session (entry.Started given) made fits = (omega arith, refl, (fits, tt))
    session (entry.NoStart code given) made fits = (omega arith, refl, (fits, tt))
    session e made fits = absurd made

pub agree-at : (vs : List SessionView) (ss : List (List Entry)) (i : ℕ) (v : SessionView) → AllAgree vs ss → slice_get vs i ≡ Some v
    → Agrees v (entries_at i ss)
agree-at [] ss i v all there = absurd cc
agree-at (x ∷ vs) [] i v all there = absurd all
agree-at (x ∷ vs) (es ∷ ss) zero v all there = subst (λ w. Agrees w es) (same_Some x v there) all.0
agree-at (x ∷ vs) (es ∷ ss) (suc i) v all there = agree-at vs ss i v all.1 there

pub agree-length : (vs : List SessionView) (ss : List (List Entry)) → AllAgree vs ss → length vs ≡ length ss
agree-length [] [] all = refl
agree-length [] (es ∷ ss) all = absurd all
agree-length (v ∷ vs) [] all = absurd all
agree-length (v ∷ vs) (es ∷ ss) all = ap suc (agree-length vs ss all.1)

pub agree-sessions : (vs : List SessionView) (ss : List (List Entry)) → AllAgree vs ss → AllByRecursion IsSession ss
agree-sessions [] [] all = tt
agree-sessions [] (es ∷ ss) all = absurd all
agree-sessions (v ∷ vs) [] all = absurd all
agree-sessions (v ∷ vs) (es ∷ ss) all = (all.0.session, agree-sessions vs ss all.1)

-- one session has come to its next entry
pub agree-set : (vs : List SessionView) (ss : List (List Entry)) (i : ℕ) (v w : SessionView) (e : Entry) → AllAgree vs ss
    → slice_get vs i ≡ Some v → Agrees w (entries_at i ss ++ e ∷ []) → AllAgree (set vs i w) (with_entry i e ss)
agree-set [] ss i v w e all there new = absurd cc
agree-set (x ∷ vs) [] i v w e all there new = absurd all
agree-set (x ∷ vs) (es ∷ ss) zero v w e all there new = (new, all.1)
agree-set (x ∷ vs) (es ∷ ss) (suc i) v w e all there new = (all.0, agree-set vs ss i v w e all.1 there new)

-- a new session has come to its first entry
pub agree-push : (vs : List SessionView) (ss : List (List Entry)) (v w : SessionView) (e : Entry) → AllAgree vs ss → Agrees w (e ∷ [])
    → AllAgree (set (vs ++ v ∷ []) (length vs) w) (with_entry (length vs) e ss)
agree-push [] [] v w e all new = (new, tt)
agree-push [] (es ∷ ss) v w e all new = absurd all
agree-push (x ∷ vs) [] v w e all new = absurd all
agree-push (x ∷ vs) (es ∷ ss) v w e all new = (all.0, agree-push vs ss v w e all.1 new)

-- ---- how many entries there are

pub sum-more : (i : ℕ) (e : Entry) (ss : List (List Entry)) → sum_by length (with_entry i e ss) ≡ sum_by length ss + 1
sum-more i e [] = refl
sum-more zero e (es ∷ ss) =
    omega (arith, sum_by-cons length (es ++ e ∷ []) ss, sum_by-cons length es ss, length-append es (e ∷ []))
sum-more (suc i) e (es ∷ ss) =
    omega (arith, sum_by-cons length es (with_entry i e ss), sum_by-cons length es ss, sum-more i e ss)

pub at-le-sum : (i : ℕ) (ss : List (List Entry)) → length (entries_at i ss) ≤ sum_by length ss
at-le-sum i [] = omega arith
at-le-sum zero (es ∷ ss) = omega (arith, sum_by-cons length es ss)
at-le-sum (suc i) (es ∷ ss) = omega (arith, sum_by-cons length es ss, at-le-sum i ss)

pub sessions-same : (i : ℕ) (e : Entry) (ss : List (List Entry)) → i < length ss → length (with_entry i e ss) ≡ length ss
sessions-same i e [] lt = absurd (omega arith)
sessions-same zero e (es ∷ ss) lt = refl
sessions-same (suc i) e (es ∷ ss) lt = ap suc (sessions-same i e ss (omega arith))

pub sessions-more : (i : ℕ) (e : Entry) (ss : List (List Entry)) → length (with_entry i e ss) ≤ length ss + 1
sessions-more i e [] = omega arith
sessions-more zero e (es ∷ ss) = omega arith
sessions-more (suc i) e (es ∷ ss) = omega (arith, sessions-more i e ss)

pub at-more : (i j : ℕ) (e : Entry) (ss : List (List Entry)) → length (entries_at j ss) ≤ length (entries_at j (with_entry i e ss))
at-more i j e [] = omega arith
at-more zero zero e (es ∷ ss) = omega (arith, length-append es (e ∷ []))
at-more zero (suc j) e (es ∷ ss) = omega arith
at-more (suc i) zero e (es ∷ ss) = omega arith
at-more (suc i) (suc j) e (es ∷ ss) = at-more i j e ss

pub at-one_more : (i : ℕ) (e : Entry) (ss : List (List Entry)) → i ≤ length ss → length (entries_at i (with_entry i e ss)) ≡ length (entries_at i ss) + 1
at-one_more zero e [] le = refl
at-one_more (suc i) e [] le = absurd (omega arith)
at-one_more zero e (es ∷ ss) le = omega (arith, length-append es (e ∷ []))
at-one_more (suc i) e (es ∷ ss) le = at-one_more i e ss (omega arith)

-- no entry of a session that there is not yet
pub at-end : (ss : List (List Entry)) → entries_at (length ss) ss ≡ []
at-end [] = refl
at-end (es ∷ ss) = at-end ss
