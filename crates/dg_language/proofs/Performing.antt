-- What an action on a session comes to, by its first entry.
use Rattle.std.proofs.Common.{◌≡◌, ℕ, suc, ◌+◌, ◌-◌, ◌<◌, refl, ap, sym, ◌∙◌, arith}
use Rattle.std.specs.Prelude.{Option, Some, None}
use Rattle.dg_transcript.specs.declared.entry.Entry.{Entry}
use Rattle.dg_transcript.specs.declared.cursor.Act.{Act}
use Rattle.dg_transcript.specs.declared.cursor.Act.TheVariants as act
use Rattle.dg_transcript.specs.declared.cursor.Action.{Action}
use Rattle.dg_sessions.specs.Views.{SessionView, SessionsView, most_entries, session_at}
use Rattle.dg_sessions.specs.Steps.{step_of, acted_at, all_acted}
use Rattle.dg_sessions.proofs.StepLemmas.{UsesUp, one_used}
use Rattle.dg_world.specs.declared.question.Answer.{Answer}
use Rattle.dg_language.specs.declared.ask.Ask.{Ask}
use Rattle.dg_language.specs.Play.{Play, Asks, lookup}
use Rattle.dg_language.specs.State.{State, learn, with_sessions}
use Rattle.dg_language.specs.Evaluation.{Ending}
use Rattle.dg_language.specs.Arguments.{on}
use Rattle.dg_language.specs.Sessions.{Told, Late, depart, entry_for, hear_for, ask_for, entry_in, come_to, at_entry, performing, perform}

-- what is done with an answer needs to be known only for the sessions as they are
ask_for-along : (q : Ask) (s : State) (f g : Answer → State → Play Ending) → ((a : Answer) (t : State) → t.sessions ≡ s.sessions → f a t ≡ g a t)
    → ask_for q s f ≡ ask_for q s g
unfolding ask_for learn
ask_for-along q s f g same = heard (lookup q.question s.known)
  where
    learned : (a : Answer) → (learn q.question a s).sessions ≡ s.sessions
    learned a = refl

    heard : (o : Option Answer) → hear_for o q s f ≡ hear_for o q s g
    heard (Some a) = same a s refl
    heard None = ap (Asks q) (λ i a. same a (learn q.question a s) (learned a) i)

on-along : {A : Type 0} (o : Option A) (p : Play Ending) (f g : A → Play Ending) → ((a : A) → o ≡ Some a → f a ≡ g a) → on o p f ≡ on o p g
on-along None p f g same = refl
on-along (Some a) p f g same = same a refl

come_to-along : (x : Act) (e : Entry) (told : Told) (late : Late) (s : State) (p q : Play Ending) → (UsesUp x → p ≡ q)
    → come_to x e told late s p ≡ come_to x e told late s q
come_to-along act.Answered e told late s p q same = ap (told e s) (same tt)
come_to-along (act.Wants k) e told late s p q same = same tt
come_to-along act.TimedOut e told late s p q same = refl
come_to-along act.Departed e told late s p q same = refl

used-more : (n : ℕ) (a : Action) (e : Entry) (ss : SessionsView) (v : SessionView) → session_at n ss ≡ Some v → UsesUp (step_of v a e).act
    → (all_acted n a e ss).used ≡ ss.used + 1
used-more n a e ss v there uses = ap (λ o. (acted_at n a e ss o).used) there ∙ ap (λ k. ss.used + k) (one_used v a e uses)

at_entry-sessions : (n : ℕ) (a : Action) (e : Entry) (t : State) → (at_entry n a e t).sessions ≡ all_acted n a e t.sessions
unfolding with_sessions
at_entry-sessions n a e t = refl

-- The first entry, where one more can be used up: what is wanted next is the same action, as it then stands.
pub perform-first : (n : ℕ) (a : Action) (told : Told) (late : Late) (s : State) → s.sessions.used < most_entries
    → perform n a told late s
    ≡ on (session_at n s.sessions) (depart s) (λ v. ask_for (entry_for n v a s) s (λ heard t.
    on (entry_in heard) (depart t) (λ e.
    come_to (step_of v a e).act e told late (at_entry n a e t) (perform n (step_of v a e).action told late (at_entry n a e t)))))
unfolding perform performing
perform-first n a told late s room =
    let r = most_entries - (s.sessions.used + 1) in
    let left : most_entries - s.sessions.used ≡ suc r = omega arith in
    ap (λ m. performing m n a told late s) left
    ∙ on-along (session_at n s.sessions) (depart s) _ _ (λ v there.
    ask_for-along (entry_for n v a s) s _ _ (λ heard t same.
    on-along (entry_in heard) (depart t) _ _ (λ e is.
    come_to-along (step_of v a e).act e told late (at_entry n a e t) _ _ (λ uses.
    let used : (at_entry n a e t).sessions.used ≡ s.sessions.used + 1 =
    ap (λ x. x.used) (at_entry-sessions n a e t) ∙ ap (λ ss. (all_acted n a e ss).used) same ∙ used-more n a e s.sessions v there uses in
    ap (λ u. performing (most_entries - u) n (step_of v a e).action told late (at_entry n a e t)) (sym used)))))
