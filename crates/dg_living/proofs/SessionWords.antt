-- What the words of spawn and send name.
use Rattle.std.proofs.Common.{◌≡◌, ℕ, ◌+◌, ◌<◌, ◌≤◌, Bool, true, false, List, [], ◌∷◌, length, refl, subst, arith, codes}
use Rattle.std.specs.Prelude.{Option, Some, None, Result, Ok, Err, position, option_map}
use Rattle.std.proofs.lemmas.Option.{same_Some}
use Rattle.dg_sessions.specs.Views.{SessionView, SessionsView, has_id, session_at, named}
use Rattle.dg_sessions.specs.Phases.{is_open, can_wait}
use Rattle.dg_sessions.specs.declared.phase.Phase.{Phase}
use Rattle.dg_sessions.specs.declared.phase.Phase.TheVariants.{Unstarted, Open, Ended, Closed, Waited}
use Rattle.dg_language.specs.Evaluation.{wrong_count}
use Rattle.dg_language.specs.Switching.{is_flag}
use Rattle.dg_bytes.specs.Same.{same_bytes}
use Rattle.dg_language.specs.SessionWords.{bad_flag, spawn_words, sent_text, last_of_send, send_words}
use Rattle.dg_language.specs.Sessions.{if_fit, fit_number, fit_session, is_session_open}
use Rattle.dg_living.proofs.Admitting.{Place, ended, PhaseAt}
use Rattle.dg_living.proofs.ElementLengths.{IsShort, AreShort}

-- a start has a word
pub spawn-some : (args words : List (List ℕ)) → spawn_words args ≡ Ok words → 0 < length words
unfolding spawn_words
spawn-some [] words named_so = absurd cc
spawn-some (w ∷ ws) words named_so = go (is_flag w) (same_bytes w (codes "-noecho")) (spawn-some ws words) named_so
  where
    go : (b d : Bool) → (spawn_words ws ≡ Ok words → 0 < length words)
        → (elim b as (λ _. Result (List (List ℕ)) (List ℕ)) [ true ↦ elim d as (λ _. Result (List (List ℕ)) (List ℕ)) [ true ↦ spawn_words ws | false ↦ Err (bad_flag w) ] | false ↦ Ok (w ∷ ws) ]) ≡ Ok words
        → 0 < length words
    go true true ih so = ih so
    go true false ih so = absurd cc
    go false d ih so = let same : (w ∷ ws) ≡ words = cc in subst (λ x. 0 < length x) same (omega arith)

sent-short : (id : Option (List ℕ)) (args : List (List ℕ)) (r : Option (List ℕ) × List ℕ) → sent_text id args ≡ Ok r → AreShort args → IsShort r.1
sent-short id [] r so short = absurd cc
sent-short id (text ∷ []) r so short = let same : (id, text) ≡ r = cc in subst (λ x. IsShort x.1) same short.0
sent-short id (_ ∷ _ ∷ _) r so short = absurd cc

last-short : (id : Option (List ℕ)) (w : List ℕ) (r : Option (List ℕ) × List ℕ) → last_of_send id w ≡ Ok r → IsShort w → IsShort r.1
last-short id w r so short = go (is_flag w) (same_bytes w (codes "--")) (same_bytes w (codes "-i")) so
  where
    go : (a b d : Bool)
        → (elim a as (λ _. Result (Option (List ℕ) × List ℕ) (List ℕ)) [
          | true ↦ elim b as (λ _. Result (Option (List ℕ) × List ℕ) (List ℕ)) [
            | true ↦ Err (wrong_count (codes "send"))
            | false ↦ elim d as (λ _. Result (Option (List ℕ) × List ℕ) (List ℕ)) [ true ↦ Err (wrong_count (codes "send")) | false ↦ Err (bad_flag w) ]
          ]
          | false ↦ Ok (id, w)
        ]) ≡ Ok r → IsShort r.1
    go true true d is_so = absurd cc
    go true false true is_so = absurd cc
    go true false false is_so = absurd cc
    go false b d is_so = let same : (id, w) ≡ r = cc in subst (λ x. IsShort x.1) same short

-- a text that is sent is one of the words
pub send-short : (id : Option (List ℕ)) (args : List (List ℕ)) (r : Option (List ℕ) × List ℕ) → send_words id args ≡ Ok r → AreShort args
    → IsShort r.1
unfolding send_words
send-short id [] r so short = absurd cc
send-short id (w ∷ []) r so short = last-short id w r so short.0
send-short id (w ∷ v ∷ ws) r so short =
    go (is_flag w) (same_bytes w (codes "--")) (same_bytes w (codes "-i")) (λ more. send-short (Some v) ws r more short.1.1) so
  where
    go : (a b d : Bool) → (send_words (Some v) ws ≡ Ok r → IsShort r.1)
        → (elim a as (λ _. Result (Option (List ℕ) × List ℕ) (List ℕ)) [
          | true ↦ elim b as (λ _. Result (Option (List ℕ) × List ℕ) (List ℕ)) [
            | true ↦ sent_text id (v ∷ ws)
            | false ↦ elim d as (λ _. Result (Option (List ℕ) × List ℕ) (List ℕ)) [ true ↦ send_words (Some v) ws | false ↦ Err (bad_flag w) ]
          ]
          | false ↦ sent_text id (w ∷ v ∷ ws)
        ]) ≡ Ok r → IsShort r.1
    go true true d ih is_so = sent-short id (v ∷ ws) r is_so short.1
    go true false true ih is_so = ih is_so
    go true false false ih is_so = absurd cc
    go false b d ih is_so = sent-short id (w ∷ v ∷ ws) r is_so short

-- ---- the session of a command

-- a session that is fit for a call
pub record Fit (fit : Phase → Bool) (n : ℕ) (ss : SessionsView) : Type 0 where
  pub number : 1 ≤ n
  pub view : SessionView
  pub there : session_at n ss ≡ Some view
  pub fits : fit view.phase ≡ true

named-some : (o : Option ℕ) (m : ℕ) → option_map (λ i. i + 1) o ≡ Some m → 1 ≤ m
named-some None m so = absurd cc
named-some (Some i) m so = omega (arith, same_Some (i + 1) m so)

pub fit-found : (fit : Phase → Bool) (id : List ℕ) (ss : SessionsView) (n : ℕ) → fit_session fit id ss ≡ Some n → Fit fit n ss
fit-found fit id ss n so = go (named id ss) (named-some (position (has_id id) ss.all)) so
  where
    by_test : (m : ℕ) (v : SessionView) → 1 ≤ m → session_at m ss ≡ Some v → (b : Bool) → fit v.phase ≡ b
        → (elim b as (λ _. Option ℕ) [ true ↦ Some m | false ↦ None ]) ≡ Some n → Fit fit n ss
    by_test m v number there true test found =
        subst (λ x. Fit fit x ss) (same_Some m n found) (record { number = number; view = v; there = there; fits = test })
    by_test m v number there false test found = absurd cc

    at : (m : ℕ) (o : Option SessionView) → 1 ≤ m → session_at m ss ≡ o → if_fit fit m o ≡ Some n → Fit fit n ss
    at m None number there found = absurd cc
    at m (Some v) number there found = by_test m v number there (fit v.phase) refl found

    go : (o : Option ℕ) → ((m : ℕ) → o ≡ Some m → 1 ≤ m) → fit_number fit ss o ≡ Some n → Fit fit n ss
    go None some found = absurd cc
    go (Some m) some found = at m (session_at m ss) (some m refl) refl found

pub open-phase : (p : Phase) → is_open p ≡ true → p ≡ Open
open-phase Open e = refl
open-phase Unstarted e = absurd cc
open-phase Ended e = absurd cc
open-phase Closed e = absurd cc
open-phase Waited e = absurd cc

-- an open session, by its number
pub open-fit : (n : ℕ) (ss : SessionsView) (o : Option SessionView) → 1 ≤ n → session_at n ss ≡ o → is_session_open o ≡ true → Fit is_open n ss
open-fit n ss None number there is_so = absurd cc
open-fit n ss (Some v) number there is_so = record { number = number; view = v; there = there; fits = is_so }

-- a session that can be waited for and is not open has ended
pub waits-at : (p : Phase) (q : Place) → can_wait p ≡ true → is_open p ≡ false → PhaseAt p q → q ≡ ended
waits-at Ended q can closed at = at
waits-at Closed q can closed at = at
waits-at Open q can closed at = absurd cc
waits-at Unstarted q can closed at = absurd cc
waits-at Waited q can closed at = absurd cc
