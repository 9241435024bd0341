-- The session of a command, and what it keeps.
use Rattle.std.proofs.Common.{◌≡◌, ℕ, ℤ, pos, negsuc, ◌&&◌, ◌≤◌, Bool, true, false, List, [], refl, ap, sym, ◌∙◌, subst, arith}
use Rattle.std.specs.Prelude.{Option, Some, None, Result, Ok, Err, nat_lt, nat_le, codes}
use Rattle.std.proofs.lemmas.Bool.Decides.{nat_tests}
use Rattle.dg_scope.specs.Scopes.{value_of}
use Rattle.dg_expr.specs.Number.{number_of}
use Rattle.dg_world.specs.declared.question.Question.{Question}
use Rattle.dg_world.specs.declared.question.Answer.{Answer}
use Rattle.dg_sessions.specs.Phases.{has_started}
use Rattle.dg_sessions.specs.Views.{SessionView, SessionsView, session_at}
use Rattle.dg_sessions.specs.Steps.{changed, changed_at, limited}
use Rattle.dg_language.specs.declared.code.Code.TheVariants.{Done}
use Rattle.dg_language.specs.Play.{Play, Asks, plain}
use Rattle.dg_language.specs.State.{State, learn, with_sessions}
use Rattle.dg_language.specs.Evaluation.{Ending, Then, fail}
use Rattle.dg_language.specs.Arguments.{on}
use Rattle.dg_language.specs.Variables.{touch, cannot_read}
use Rattle.dg_language.specs.Sessions.{by_id, by_spawn_id, fit_session, not_open, on_session, on_words, seek, sought, do_match_max, kept_limit, limit_of_number, match_limit, later_limit, session_limit, set_limit}
use Rattle.dg_language.specs.SessionWords.{match_words}
use Rattle.dg_asking.specs.declared.attempt.AttemptEnd.{AttemptEnd}
use Rattle.dg_asking.specs.declared.attempt.AttemptEnd.TheVariants.{Fails}
use Rattle.dg_asking.specs.declared.attempt.Attempt.{Attempt}
use Rattle.dg_asking.specs.declared.attempt.Attempt.TheVariants.{Ends as IsOver, Asks as NeedsAnswer}
use Rattle.dg_asking.specs.declared.seeking.Fit.{Fit}
use Rattle.dg_asking.specs.Attempts.{Attempts, EndsAs, Precedes, touched}
use Rattle.dg_asking.specs.Seeking.{fit_of, FindsFit, Seeks}
use Rattle.dg_asking.proofs.AttemptLemmas.{ends-on, kept, used-ends}

-- ---- a variable that is sought locally, then globally

module _ (n : List ℕ) where
  -- which one is meant does not depend on what was told
  sought-learned : (q : Question) (a : Answer) (s : State) → sought n (learn q a s) ≡ sought n s
  unfolding learn
  sought-learned q a s = refl

  seek-at : (s : State) (m : List ℕ) (k : Option (List ℕ) → State → Play Ending) → m ≡ sought n s → seek n s k ≡ touch m s (λ t. k (value_of t.variables m) t)
  unfolding seek
  seek-at s m k e = ap (λ (x : List ℕ). touch x s (λ t. k (value_of t.variables x) t)) (sym e)

  module _ (f : Option (List ℕ) → State → Then → Play Ending) (m : List ℕ) (old mid : State) (e : m ≡ sought n old) where
    -- it can't be used
    pub seek-waits : (a : Attempt) → Precedes (touched m) old mid (Some a) → mid ≡ old → Attempts (λ s k. seek n s (λ o t. f o t k)) old mid a
    seek-waits (IsOver o) h same =
        ends-on (λ s k. seek n s (λ x t. f x t k)) (λ s k. touch m s (λ t. f (value_of t.variables m) t k)) old old mid o
        (λ k. seek-at old m (λ x t. f x t k) e) (kept old) (h (λ t k. f (value_of t.variables m) t k))
    seek-waits (NeedsAnswer q) h same =
        let waits = h (λ t k. f (value_of t.variables m) t k) in
        let again : (k : Then) (a : Answer) → touch m (learn q a mid) (λ t. f (value_of t.variables m) t k) ≡ seek n (learn q a mid) (λ o t. f o t k) =
        λ k a. sym (seek-at (learn q a mid) m (λ o t. f o t k) (e ∙ ap (sought n) (sym same) ∙ sym (sought-learned q a mid))) in
        ((λ k. seek-at old m (λ o t. f o t k) e ∙ waits.0 k ∙ ap (Asks (plain q)) (λ i a. again k a i)), waits.1, waits.2)

    -- it can be used, and what follows has ended so
    pub seek-ends : (new : State) (o : AttemptEnd) → Precedes (touched m) old mid None → EndsAs (λ t k. f (value_of t.variables m) t k) mid new o
        → EndsAs (λ s k. seek n s (λ x t. f x t k)) old new o
    seek-ends new o h g =
        ends-on (λ s k. seek n s (λ x t. f x t k)) (λ s k. touch m s (λ t. f (value_of t.variables m) t k)) old old new o
        (λ k. seek-at old m (λ x t. f x t k) e) (kept old) (used-ends m (λ t k. f (value_of t.variables m) t k) old mid new o h g)

-- ---- the session of a command

module _ (fit : Fit) where
  by-id-none : (id : List ℕ) (s : State) (k : Then) (f : ℕ → State → Play Ending) → fit_session (fit_of fit) id s.sessions ≡ None
      → by_id (fit_of fit) id s k f ≡ fail (not_open id) s k
  by-id-none id s k f e = ap (λ o. on o (fail (not_open id) s k) (λ n. f n s)) e

  by-id-some : (id : List ℕ) (s : State) (k : Then) (f : ℕ → State → Play Ending) (n : ℕ) → fit_session (fit_of fit) id s.sessions ≡ Some n
      → by_id (fit_of fit) id s k f ≡ f n s
  by-id-some id s k f n e = ap (λ o. on o (fail (not_open id) s k) (λ n. f n s)) e

  flag-misses : (id : List ℕ) (s : State) → fit_session (fit_of fit) id s.sessions ≡ None → Seeks fit (Some id) s s (Err (IsOver (Fails (not_open id))))
  unfolding on_session
  flag-misses id s e = λ f. ((λ k. by-id-none id s k (λ n t. f n t k) e), kept s)

  -- a flag names it
  pub flag-seeks : (id : List ℕ) (s : State) (r : Result ℕ Attempt) → FindsFit fit id s r → Seeks fit (Some id) s s r
  unfolding on_session
  flag-seeks id s (Ok n) e = ((λ k f. by-id-some id s k f n e), kept s)
  flag-seeks id s (Err a) h = subst (λ x. Seeks fit (Some id) s s (Err x)) (sym h.1) (flag-misses id s h.0)

  module _ (m : List ℕ) (old mid : State) (e : m ≡ sought (codes "spawn_id") old) where
    -- `spawn_id` can't be used
    pub spawn_id-waits : (a : Attempt) → Precedes (touched m) old mid (Some a) → mid ≡ old → Seeks fit None old mid (Err a)
    unfolding on_session
    spawn_id-waits a h same = λ f.
        seek-waits (codes "spawn_id") (λ o t k. by_spawn_id (fit_of fit) o t k (λ n u. f n u k)) m old mid e a h same

    module _ (h : Precedes (touched m) old mid None) where
      -- it is not set
      pub spawn_id-none : (message : List ℕ) → value_of mid.variables m ≡ None → message ≡ cannot_read (codes "spawn_id")
          → Seeks fit None old mid (Err (IsOver (Fails message)))
      unfolding on_session
      spawn_id-none message none said = λ f.
          seek-ends (codes "spawn_id") (λ o t k. by_spawn_id (fit_of fit) o t k (λ n u. f n u k)) m old mid e mid (Fails message) h
          ((λ k. ap (λ o. by_spawn_id (fit_of fit) o mid k (λ n u. f n u k)) none ∙ ap (λ x. fail x mid k) (sym said)), kept mid)

      module _ (id : List ℕ) (some : value_of mid.variables m ≡ Some id) where
        spawn_id-finds : (n : ℕ) → fit_session (fit_of fit) id mid.sessions ≡ Some n → Seeks fit None old mid (Ok n)
        unfolding on_session
        spawn_id-finds n found = (
          λ k f. seek-at (codes "spawn_id") old m (λ o t. by_spawn_id (fit_of fit) o t k f) e
              ∙ h.0 (λ t. by_spawn_id (fit_of fit) (value_of t.variables m) t k f) k
              ∙ ap (λ o. by_spawn_id (fit_of fit) o mid k f) some ∙ by-id-some id mid k f n found,
          h.1,
        )

        spawn_id-misses : fit_session (fit_of fit) id mid.sessions ≡ None → Seeks fit None old mid (Err (IsOver (Fails (not_open id))))
        unfolding on_session
        spawn_id-misses none = λ f.
            seek-ends (codes "spawn_id") (λ o t k. by_spawn_id (fit_of fit) o t k (λ n u. f n u k)) m old mid e mid (Fails (not_open id)) h (
              (λ k. ap (λ o. by_spawn_id (fit_of fit) o mid k (λ n u. f n u k)) some ∙ by-id-none id mid k (λ n u. f n u k) none),
              kept mid,
            )

        -- it names the session, or none that is fit
        pub spawn_id-seeks : (r : Result ℕ Attempt) → FindsFit fit id mid r → Seeks fit None old mid r
        spawn_id-seeks (Ok n) found = spawn_id-finds n found
        spawn_id-seeks (Err a) missed = subst (λ x. Seeks fit None old mid (Err x)) (sym missed.1) (spawn_id-misses missed.0)

  -- a command that goes on with a session
  pub sought-ends : (id : Option (List ℕ)) (n : ℕ) (f : ℕ → State → Then → Play Ending) (old mid new : State) (o : AttemptEnd) → Seeks fit id old mid (Ok n)
      → EndsAs (f n) mid new o → EndsAs (λ s k. on_session (fit_of fit) id s k (λ m t. f m t k)) old new o
  sought-ends id n f old mid new o h g =
      ends-on (λ s k. on_session (fit_of fit) id s k (λ m t. f m t k)) (f n) old mid new o (λ k. h.0 k (λ m t. f m t k)) h.1 g

-- ---- match_max

-- a command whose words are read, and one whose words are not
pub on_words-read : {A : Type 0} (r : Result A (List ℕ)) (a : A) (f : A → State → Then → Play Ending) → r ≡ Ok a
    → (λ (s : State) (k : Then). on_words r s k (λ x. f x s k)) ≡ f a
on_words-read {A = A} r a f e = ap (λ (x : Result A (List ℕ)). λ (s : State) (k : Then). on_words x s k (λ y. f y s k)) e

pub on_words-fault : {A : Type 0} (r : Result A (List ℕ)) (why : List ℕ) (f : A → State → Then → Play Ending) → r ≡ Err why
    → (λ (s : State) (k : Then). on_words r s k (λ x. f x s k)) ≡ fail why
on_words-fault {A = A} r why f e = ap (λ (x : Result A (List ℕ)). λ (s : State) (k : Then). on_words x s k (λ y. f y s k)) e

module _ (args : List (List ℕ)) where
  match-of : (w : Bool × Option (List ℕ)) → match_words false args ≡ Ok w → do_match_max args ≡ (λ s k. match_limit w.0 w.1 s k)
  unfolding do_match_max
  match-of w e = on_words-read (match_words false args) w (λ x s k. match_limit x.0 x.1 s k) e

  pub match-later : (w : Bool × Option (List ℕ)) → match_words false args ≡ Ok w → w.0 ≡ true → do_match_max args ≡ (λ s k. later_limit w.1 s k)
  match-later w e h = match-of w e ∙ ap (λ b. λ (s : State) (k : Then). match_limit b w.1 s k) h

  pub match-session : (w : Bool × Option (List ℕ)) → match_words false args ≡ Ok w → w.0 ≡ false
      → do_match_max args ≡ (λ s k. on_session has_started None s k (λ n t. session_limit n w.1 t k))
  match-session w e h = match-of w e ∙ ap (λ b. λ (s : State) (k : Then). match_limit b w.1 s k) h

  pub match-fault : (why : List ℕ) → match_words false args ≡ Err why → do_match_max args ≡ fail why
  unfolding do_match_max
  match-fault why e = on_words-fault (match_words false args) why (λ w s k. match_limit w.0 w.1 s k) e

by-range : (b : Bool) (m n : ℕ) → b ≡ (nat_lt 0 m && nat_le m 65536) → elim b as (λ _. Option ℕ) [ true ↦ Some m | false ↦ None ] ≡ Some n → (1 ≤ n) × (n ≤ 65536)
by-range true m n h e =
    let same : m ≡ n = cc in
    (grind (arith, nat_tests), grind (arith, nat_tests))
by-range false m n h e = absurd (cc)

number-in-range : (o : Option ℤ) (n : ℕ) → limit_of_number o ≡ Some n → (1 ≤ n) × (n ≤ 65536)
number-in-range None n e = absurd (cc)
number-in-range (Some (pos m)) n e = by-range (nat_lt 0 m && nat_le m 65536) m n refl e
number-in-range (Some (negsuc m)) n e = absurd (cc)

pub kept-in-range : (text : List ℕ) (n : ℕ) → kept_limit text ≡ Some n → (1 ≤ n) × (n ≤ 65536)
unfolding kept_limit
kept-in-range text n e = number-in-range (number_of text) n e

pub later-set : (text : List ℕ) (max : ℕ) (s : State) (k : Then) → kept_limit text ≡ Some max
    → later_limit (Some text) s k ≡ k Done [] (with_sessions (record s.sessions { max = max }) s)
unfolding later_limit
later-set text max s k e = ap (λ o. set_limit o s k (λ n. with_sessions (record s.sessions { max = n }) s)) e

pub session-set : (n : ℕ) (text : List ℕ) (max : ℕ) (s : State) (k : Then) → kept_limit text ≡ Some max
    → session_limit n (Some text) s k ≡ k Done [] (with_sessions (changed n (limited max) s.sessions) s)
unfolding session_limit
session-set n text max s k e = ap (λ o. set_limit o s k (λ m. with_sessions (changed n (limited m) s.sessions) s)) e

-- a session that is not there is not changed
pub changed-none : (n : ℕ) (f : SessionView → SessionView) (s : State) → session_at n s.sessions ≡ None → with_sessions (changed n f s.sessions) s ≡ s
unfolding with_sessions
changed-none n f s e = ap (λ o. with_sessions (changed_at n f s.sessions o) s) e

used-by : (n : ℕ) (f : SessionView → SessionView) (ss : SessionsView) (o : Option SessionView) → (changed_at n f ss o).used ≡ ss.used
used-by n f ss None = refl
used-by n f ss (Some v) = refl

pub used-changed : (n : ℕ) (f : SessionView → SessionView) (ss : SessionsView) → (changed n f ss).used ≡ ss.used
used-changed n f ss = used-by n f ss (session_at n ss)
