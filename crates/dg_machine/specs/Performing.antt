-- What an action on a session comes to at its next entry.
use Rattle.std.specs.Prelude.{◌≡◌, ℕ, None, Some}
use Rattle.dg_transcript.specs.declared.cursor.Action.{Action}
use Rattle.dg_transcript.specs.declared.entry.Entry.{Entry}
use Rattle.dg_sessions.specs.Views.{SessionView, session_at}
use Rattle.dg_world.specs.declared.question.Answer.TheVariants as answer
use Rattle.dg_language.specs.Play.{Asks, lookup}
use Rattle.dg_language.specs.State.{State, learn}
use Rattle.dg_language.specs.Sessions.{Told, Late, depart, entry_for, perform}
use Rattle.dg_machine.specs.declared.machine.Machine.{Machine}
use Rattle.dg_machine.specs.declared.acting.NextEntry.{NextEntry}
use Rattle.dg_machine.specs.declared.acting.NextEntry.TheVariants.{Told as IsTold, Unanswered, Missing}
use Rattle.dg_machine.specs.declared.frame.Came.{Came}
use Rattle.dg_machine.specs.declared.frame.Came.TheVariants.{Stands, Over, Passed, Answered, Late as TooLate}
use Rattle.dg_machine.specs.Acting.{UsesOne, Acts, SameKind}
use Rattle.dg_machine.specs.Meaning.{ends_with}

-- the next entry of the session was told, and is this
abbrev pub IsNext : ℕ → Action → Entry → State → Type 0
IsNext n a e s = (v : SessionView) × (session_at n s.sessions ≡ Some v) × (lookup (entry_for n v a s).question s.known ≡ Some (answer.Entry e))

-- what is known of the next entry of the session: this one; a question for it that stands; or that there is none
abbrev pub KnowsNext : ℕ → Action → State → NextEntry → Type 0
KnowsNext n a s (IsTold e) = IsNext n a e s
KnowsNext n a s (Unanswered ask) =
    ((told : Told) (late : Late) → perform n a told late s ≡ Asks ask (λ x. perform n a told late (learn ask.question x s)))
    × (lookup ask.question s.known ≡ None)
KnowsNext n a s Missing = (told : Told) (late : Late) → perform n a told late s ≡ depart s

-- To a question that stands, and nothing has changed; to the end of the whole test; to the entry behind it, or to its answer or
-- its limit, and but for the sessions nothing has changed. Behind it the second action is what is left of the first.
abbrev pub Performs : ℕ → Action → Action → Machine → Machine → Came → Type 0
Performs n a b old new (Stands ask) =
    ((told : Told) (late : Late) → perform n a told late old.state ≡ Asks ask (λ x. perform n a told late (learn ask.question x old.state)))
    × (new ≡ old) × (b ≡ a) × (lookup ask.question old.state.known ≡ None)
Performs n a b old new (Over c) =
    ((told : Told) (late : Late) → perform n a told late old.state ≡ ends_with c new.state) × (new.state.known ≡ old.state.known)
Performs n a b old new Passed =
    ((told : Told) (late : Late) → perform n a told late old.state ≡ perform n b told late new.state)
    × UsesOne old.state new.state × SameKind a b × (new ≡ record old { state = new.state })
Performs n a b old new (Answered e) =
    ((told : Told) (late : Late) → perform n a told late old.state ≡ told e new.state (perform n b told late new.state))
    × UsesOne old.state new.state × SameKind a b × (new ≡ record old { state = new.state })
Performs n a b old new TooLate =
    ((told : Told) (late : Late) → perform n a told late old.state ≡ late new.state)
    × Acts old.state new.state × (new ≡ record old { state = new.state })
