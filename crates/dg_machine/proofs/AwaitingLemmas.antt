-- Matches, and the rounds of `expect`.
use Rattle.std.proofs.Common.{◌≡◌, ◌≢◌, ℕ, suc, zero, ◌+◌, ◌-◌, ◌^◌, ◌≤◌, ◌⊎◌, inl, inr, Bool, true, false, List, [], ◌∷◌, ◌++◌, take, drop, refl, ap, sym, ◌∙◌, arith}
use Rattle.std.proofs.lemmas.List.{drop-take, take-take}
use Rattle.std.proofs.lemmas.List.Elements.{recursion_from_All}
use Rattle.std.specs.Prelude.{Option, Some, None, IfSome, is_some, slice_range, codes, decimal}
use Rattle.std.specs.List.{AllByRecursion}
use Rattle.dg_glob.specs.declared.glob.Span.{Span}
use Rattle.dg_match.specs.Hits.{LiesBetween, LiesIn, hit_of}
use Rattle.dg_match.specs.declared.hit.Hit.{Hit}
use Rattle.dg_sessions.specs.Views.{SessionView, SessionsView, id_of, session_at}
use Rattle.dg_sessions.specs.Phases.{is_open}
use Rattle.dg_sessions.specs.Steps.{changed, changed_at, emptied, taken}
use Rattle.dg_transcript.specs.declared.cursor.Action.{Action}
use Rattle.dg_transcript.specs.declared.cursor.Action.TheVariants as action
use Rattle.dg_transcript.specs.declared.entry.Entry.{Entry}
use Rattle.dg_transcript.specs.Output.{output_of}
use Rattle.dg_language.specs.declared.code.Code.{Code}
use Rattle.dg_language.specs.declared.code.Code.TheVariants.{Done, Failed, Returned, Broken, Continued, ExpContinued}
use Rattle.dg_language.specs.Play.{Play, Ends}
use Rattle.dg_language.specs.State.{State, assigned, with_sessions, in_action, out_of_action}
use Rattle.dg_language.specs.Evaluation.{Ending, Then, Nested, fail, out_of_steps}
use Rattle.dg_language.specs.Sessions.{Told, Late, if_fit, is_session_open, not_open, perform}
use Rattle.dg_language.specs.ExpectWords.{is_for_end, is_for_timeout, patterns_in}
use Rattle.dg_language.specs.Expecting.{Waiting, act, action_at, after_action, after_limit, after_read, bytes_of, first_action, group_text, one_round, out_name, reading, rounds, taking, tries, with_end, with_groups, with_match, with_removed}
use Rattle.dg_machine.specs.declared.frame.Control.{Control}
use Rattle.dg_language.specs.Language.{evaluate}
use Rattle.dg_machine.specs.declared.frame.Came.TheVariants.{Passed, Answered, Late as TooLate}
use Rattle.dg_machine.specs.declared.frame.Frame.{Frame}
use Rattle.dg_machine.specs.declared.frame.Reach.TheVariants.{Reading}
use Rattle.dg_machine.specs.declared.frame.Wait.{Wait}
use Rattle.dg_machine.specs.declared.machine.Machine.{Machine}
use Rattle.dg_machine.specs.Acting.{Acts, UsesOne, again, awaiting, limit_in, waiting_of}
use Rattle.dg_machine.specs.Meaning.{all_back, weight, weight_of}
use Rattle.dg_machine.specs.Performing.{Performs}

-- ---- the parts of a match

slice-within : (xs : List ℕ) (a b e : ℕ) → a ≤ b → b ≤ e → slice_range (take e xs) a b ≡ slice_range xs a b
slice-within xs a b e l m =
    let there : e ≡ a + (e - a) = omega arith in
    let fits : b - a ≤ e - a = omega arith in
    ap (λ n. take (b - a) (drop a (take n xs))) there ∙ ap (take (b - a)) (drop-take a (e - a) xs) ∙ take-take (b - a) (e - a) (drop a xs) fits

text-within : (xs : List ℕ) (low e : ℕ) (g : Option Span) → IfSome g (LiesBetween low e) → group_text (take e xs) g ≡ group_text xs g
text-within xs low e None h = refl
text-within xs low e (Some s) h = slice-within xs s.start s.end e h.1 h.2

groups-within : (r n : ℕ) (xs : List ℕ) (low e : ℕ) (gs : List (Option Span)) (s : State) → AllByRecursion (λ g. IfSome g (LiesBetween low e)) gs
    → with_groups r n (take e xs) gs s ≡ with_groups r n xs gs s
unfolding with_groups
groups-within zero n xs low e gs s h = refl
groups-within (suc r) n xs low e [] s h = refl
groups-within (suc r) n xs low e (g ∷ gs) s h =
    groups-within r (n + 1) xs low e gs (assigned (out_name (decimal n ++ codes ",string")) (group_text (take e xs) g) s) h.1
    ∙ ap (λ t. with_groups r (n + 1) xs gs (assigned (out_name (decimal n ++ codes ",string")) t s)) (text-within xs low e g h.0)

-- what is removed has all that is written of a match
pub match-is : (n : ℕ) (xs : List ℕ) (h : Hit) (s : State) → LiesIn xs h
    → with_removed n (take h.end xs)
    (with_groups 9 1 (take h.end xs) h.groups
    (assigned (out_name (codes "0,string")) (slice_range (take h.end xs) h.start h.end) (with_sessions (changed n (taken h.end) s.sessions) s)))
    ≡ with_match n xs h s
unfolding with_match
match-is n xs h s l =
    let first = with_sessions (changed n (taken h.end) s.sessions) s in
    let itself : h.end ≤ h.end = omega arith in
    ap (with_removed n (take h.end xs))
    (groups-within 9 1 xs h.start h.end h.groups (assigned (out_name (codes "0,string")) (slice_range (take h.end xs) h.start h.end) first)
    (recursion_from_All (λ g. IfSome g (LiesBetween h.start h.end)) h.groups l.groups)
    ∙ ap (λ t. with_groups 9 1 xs h.groups (assigned (out_name (codes "0,string")) t first)) (slice-within xs h.start h.end h.end l.ordered itself))

-- ---- what is kept

-- what is known, and what weighs, is as it was
pub record Stays (old new : State) : Type 0 where
  pub known : new.known ≡ old.known
  pub steps : new.steps ≡ old.steps
  pub used : new.sessions.used ≡ old.sessions.used

stays-assigned : (n v : List ℕ) (old new : State) → Stays old new → Stays old (assigned n v new)
unfolding assigned
stays-assigned n v old new h = record { known = h.known; steps = h.steps; used = h.used }

stays-groups : (r n : ℕ) (xs : List ℕ) (gs : List (Option Span)) (old new : State) → Stays old new → Stays old (with_groups r n xs gs new)
unfolding with_groups
stays-groups zero n xs gs old new h = h
stays-groups (suc r) n xs [] old new h = h
stays-groups (suc r) n xs (g ∷ gs) old new h =
    stays-groups r (n + 1) xs gs old (assigned (out_name (decimal n ++ codes ",string")) (group_text xs g) new)
    (stays-assigned (out_name (decimal n ++ codes ",string")) (group_text xs g) old new h)

stays-removed : (n : ℕ) (bytes : List ℕ) (old new : State) → Stays old new → Stays old (with_removed n bytes new)
stays-removed n bytes old new h =
    stays-assigned (out_name (codes "spawn_id")) (id_of n) old (assigned (out_name (codes "buffer")) bytes new) (stays-assigned (out_name (codes "buffer")) bytes old new h)

used-changed : (n : ℕ) (f : SessionView → SessionView) (ss : SessionsView) (o : Option SessionView) → (changed_at n f ss o).used ≡ ss.used
used-changed n f ss None = refl
used-changed n f ss (Some v) = refl

stays-changed : (n : ℕ) (f : SessionView → SessionView) (s : State) → Stays s (with_sessions (changed n f s.sessions) s)
unfolding with_sessions
stays-changed n f s = record { known = refl; steps = refl; used = used-changed n f s.sessions (session_at n s.sessions) }

pub stays-match : (n : ℕ) (xs : List ℕ) (h : Hit) (s : State) → Stays s (with_match n xs h s)
unfolding with_match
stays-match n xs h s =
    let first = with_sessions (changed n (taken h.end) s.sessions) s in
    let second = assigned (out_name (codes "0,string")) (slice_range xs h.start h.end) first in
    stays-removed n (take h.end xs) s (with_groups 9 1 xs h.groups second)
    (stays-groups 9 1 xs h.groups s second (stays-assigned (out_name (codes "0,string")) (slice_range xs h.start h.end) s first (stays-changed n (taken h.end) s)))

pub stays-end : (n : ℕ) (xs : List ℕ) (s : State) → Stays s (with_end n xs s)
unfolding with_end
stays-end n xs s = stays-removed n xs s (with_sessions (changed n emptied s.sessions) s) (stays-changed n emptied s)

pub stays-in_action : (s : State) → Stays s (in_action s)
unfolding in_action
stays-in_action s = record { known = refl; steps = refl; used = refl }

pub stays-out_of_action : (s : State) → Stays s (out_of_action s)
unfolding out_of_action
stays-out_of_action s = record { known = refl; steps = refl; used = refl }

pub weight-stays : (c : Control) (old new : State) (fs : List Frame) → Stays old new → weight c new fs ≡ weight c old fs
unfolding weight
weight-stays c old new fs h = rw (h.steps, h.used) refl

-- ---- rounds

-- the first pattern that has a match is taken, and where none has the wait goes on
module _ (nested : Nested) (w : Waiting) (again : State → Play Ending) (s : State) (k : Then) (more : Play Ending) where
  pub tries-hit : (h : Hit) → Some h ≡ hit_of (patterns_in w.pairs) (bytes_of w.session s)
      → tries nested w again s k more ≡ act nested w.session (action_at h.index w.pairs) again (with_match w.session (bytes_of w.session s) h s) k
  tries-hit h e = ap (λ o. taking nested w o again s k more) (sym e)

  pub tries-none : None ≡ hit_of (patterns_in w.pairs) (bytes_of w.session s) → tries nested w again s k more ≡ more
  tries-none e = ap (λ o. taking nested w o again s k more) (sym e)

module _ (nested : Nested) (w : Waiting) (s : State) (k : Then) where
  -- no round is left
  pub rounds-none : (left : ℕ) → left ≡ 0 → rounds left nested w s k ≡ Ends (out_of_steps s)
  unfolding rounds
  rounds-none left e = rw e refl

  -- a round begins
  pub rounds-next : (left : ℕ) → left ≢ 0
      → rounds left nested w s k ≡ tries nested w (λ t. rounds (left - 1) nested w t k) s k (reading nested w (λ t. rounds (left - 1) nested w t k) s k)
  unfolding rounds one_round
  rounds-next zero n = absurd (n refl)
  rounds-next (suc r) n = let e : suc r - 1 ≡ r = omega arith in rw e refl

-- `exp_continue` waits once more, if the session is still open
open-fit : (n : ℕ) (o : Option SessionView) → is_some (if_fit is_open n o) ≡ is_session_open o
open-fit n None = refl
open-fit n (Some v) = step (is_open v.phase)
  where
    step : (b : Bool) → is_some (elim b as (λ _. Option ℕ) [ true ↦ Some n | false ↦ None ]) ≡ b
    step true = refl
    step false = refl

module _ (n : ℕ) (again : State → Play Ending) (k : Then) (v : List ℕ) (s : State) (b : Bool)
    (is : b ≡ is_some (if_fit is_open n (session_at n (out_of_action s).sessions))) where
  waits-again : after_action n again k ExpContinued v s
      ≡ elim b as (λ _. Play Ending) [ true ↦ again (out_of_action s) | false ↦ fail (not_open (id_of n)) (out_of_action s) k ]
  unfolding after_action
  waits-again =
      ap (λ c. elim c as (λ _. Play Ending) [ true ↦ again (out_of_action s) | false ↦ fail (not_open (id_of n)) (out_of_action s) k ])
      (sym (is ∙ open-fit n (session_at n (out_of_action s).sessions)))

  pub continues-open : b ≡ true → after_action n again k ExpContinued v s ≡ again (out_of_action s)
  continues-open e = waits-again ∙ ap (λ c. elim c as (λ _. Play Ending) [ true ↦ again (out_of_action s) | false ↦ fail (not_open (id_of n)) (out_of_action s) k ]) e

  pub continues-closed : b ≡ false → after_action n again k ExpContinued v s ≡ fail (not_open (id_of n)) (out_of_action s) k
  continues-closed e = waits-again ∙ ap (λ c. elim c as (λ _. Play Ending) [ true ↦ again (out_of_action s) | false ↦ fail (not_open (id_of n)) (out_of_action s) k ]) e

-- any other end goes on up
pub ends-action : (n : ℕ) (again : State → Play Ending) (k : Then) (c : Code) (v : List ℕ) (s : State)
    → (c ≡ Done) ⊎ ((c ≡ Failed) ⊎ ((c ≡ Returned) ⊎ ((c ≡ Broken) ⊎ (c ≡ Continued))))
    → after_action n again k c v s ≡ k c v (out_of_action s)
unfolding after_action
ends-action n again k c v s (inl e) = rw e refl
ends-action n again k c v s (inr (inl e)) = rw e refl
ends-action n again k c v s (inr (inr (inl e))) = rw e refl
ends-action n again k c v s (inr (inr (inr (inl e)))) = rw e refl
ends-action n again k c v s (inr (inr (inr (inr e)))) = rw e refl

-- ---- a session is read

-- an entry that is used up pays for the next round
pub known-acts : (s t : State) → t ≡ with_sessions t.sessions s → t.known ≡ s.known
unfolding with_sessions
known-acts s t e = ap (λ (u : State). u.known) e

steps-acts : (s t : State) → t ≡ with_sessions t.sessions s → t.steps ≡ s.steps
unfolding with_sessions
steps-acts s t e = ap (λ (u : State). u.steps) e

weight-uses-one : (c : Control) (s t : State) (fs : List Frame) → UsesOne s t → weight c t fs + 2 ^ 64 ≤ weight c s fs
unfolding weight
weight-uses-one c s t fs h = let steps = steps-acts s t h.same in rw steps (omega (arith, h.one, h.room))

weight-acts : (c : Control) (s t : State) (fs : List Frame) → Acts s t → weight c t fs ≤ weight c s fs
unfolding weight
weight-acts c s t fs h = let steps = steps-acts s t h.same in rw steps (omega (arith, h.more))

module _ (old mid : Machine) (same : mid ≡ record old { state = mid.state }) where
  stack-is : mid.stack ≡ old.stack
  stack-is = ap (λ (m : Machine). m.stack) same

  control-is : mid.control ≡ old.control
  control-is = ap (λ (m : Machine). m.control) same

  pub weight-used : UsesOne old.state mid.state → weight_of mid + 2 ^ 64 ≤ weight_of old
  weight-used h = rw (stack-is, control-is) (weight-uses-one old.control old.state mid.state old.stack h)

  pub weight-acted : Acts old.state mid.state → weight_of mid ≤ weight_of old
  weight-acted h = rw (stack-is, control-is) (weight-acts old.control old.state mid.state old.stack h)

module _ (w : Wait) (limit : ℕ) (b : Action) (old mid : Machine) where
  -- what is done with an entry, and with a limit that has passed, in front of these frames
  abbrev heard : List Frame → Told
  heard fs e t more = after_read (evaluate w.depth) (waiting_of w) (again w (all_back fs)) (all_back fs) (output_of e) t more

  abbrev passed : List Frame → Late
  passed fs = after_limit (evaluate w.depth) (waiting_of w) (again w (all_back fs)) (all_back fs)

  pub reads-on : Performs w.session (action.Read limit) b old mid Passed
      → awaiting (Reading limit) w old.state (all_back old.stack) ≡ awaiting (Reading (limit_in b)) w mid.state (all_back mid.stack)
  reads-on h =
      h.0 (heard old.stack) (passed old.stack)
      ∙ ap (λ (x : Action). perform w.session x (heard old.stack) (passed old.stack) mid.state) h.2
      ∙ ap (λ (fs : List Frame). awaiting (Reading (limit_in b)) w mid.state (all_back fs)) (sym (stack-is old mid h.3))

  module _ (e : Entry) (h : Performs w.session (action.Read limit) b old mid (Answered e)) where
    pub reads-output : (o : ℕ × List ℕ) → output_of e ≡ Some o
        → awaiting (Reading limit) w old.state (all_back old.stack)
        ≡ tries (evaluate w.depth) (waiting_of w) (again w (all_back mid.stack)) mid.state (all_back mid.stack)
        (awaiting (Reading (limit_in b)) w mid.state (all_back mid.stack))
    reads-output o is =
        h.0 (heard old.stack) (passed old.stack)
        ∙ ap
        (λ x.
        after_read (evaluate w.depth) (waiting_of w) (again w (all_back old.stack)) (all_back old.stack) x mid.state
        (perform w.session b (heard old.stack) (passed old.stack) mid.state))
        is
        ∙ ap
        (λ (x : Action).
        tries (evaluate w.depth) (waiting_of w) (again w (all_back old.stack)) mid.state (all_back old.stack)
        (perform w.session x (heard old.stack) (passed old.stack) mid.state))
        h.2
        ∙ ap
        (λ (fs : List Frame).
        tries (evaluate w.depth) (waiting_of w) (again w (all_back fs)) mid.state (all_back fs)
        (awaiting (Reading (limit_in b)) w mid.state (all_back fs)))
        (sym (stack-is old mid h.3))

    pub reads-end : output_of e ≡ None
        → awaiting (Reading limit) w old.state (all_back old.stack)
        ≡ act (evaluate w.depth) w.session (first_action is_for_end w.pairs) (again w (all_back mid.stack))
        (with_end w.session (bytes_of w.session mid.state) mid.state) (all_back mid.stack)
    reads-end is =
        h.0 (heard old.stack) (passed old.stack)
        ∙ ap
        (λ x.
        after_read (evaluate w.depth) (waiting_of w) (again w (all_back old.stack)) (all_back old.stack) x mid.state
        (perform w.session b (heard old.stack) (passed old.stack) mid.state))
        is
        ∙ ap
        (λ (fs : List Frame).
        act (evaluate w.depth) w.session (first_action is_for_end w.pairs) (again w (all_back fs))
        (with_end w.session (bytes_of w.session mid.state) mid.state) (all_back fs))
        (sym (stack-is old mid h.3))

  pub reads-late : Performs w.session (action.Read limit) b old mid TooLate
      → awaiting (Reading limit) w old.state (all_back old.stack)
      ≡ act (evaluate w.depth) w.session (first_action is_for_timeout w.pairs) (again w (all_back mid.stack)) mid.state (all_back mid.stack)
  reads-late h =
      h.0 (heard old.stack) (passed old.stack)
      ∙ ap
      (λ (fs : List Frame).
      act (evaluate w.depth) w.session (first_action is_for_timeout w.pairs) (again w (all_back fs)) mid.state (all_back fs))
      (sym (stack-is old mid h.2))
