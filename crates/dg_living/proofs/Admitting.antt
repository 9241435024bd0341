-- An entry that a gate makes of an action fits the session's record, where the action may be asked of the session.
use Rattle.std.proofs.Common.{◌≡◌, ℕ, ◌<◌, ◌≤◌, true, List, [], length, refl, sym, subst, ap, ◌∙◌, arith}
use Rattle.std.specs.List.{AllByRecursion}
use Rattle.hex.specs.Hex.{IsBytes}
use Rattle.dg_transcript.specs.declared.entry.Entry.{Entry}
use Rattle.dg_transcript.specs.declared.entry.Entry.TheVariants as entry
use Rattle.dg_transcript.specs.declared.cursor.Action.{Action}
use Rattle.dg_transcript.specs.declared.cursor.Action.TheVariants as action
use Rattle.dg_transcript.specs.Order.{role_of, admits, after_role}
use Rattle.dg_transcript.specs.Limits.{BytesFit, WordsFit, EntryFits}
use Rattle.dg_sessions.specs.declared.phase.Phase.{Phase}
use Rattle.dg_sessions.specs.declared.phase.Phase.TheVariants.{Unstarted, Open, Ended, Closed, Waited}
use Rattle.dg_sessions.specs.Phases.{phase_behind}
use Rattle.dg_gate.specs.Made.{Made}
use Rattle.dg_living.specs.Living.{IsOfBytes, ActionFits}

abbrev Domain : {A B : Type 0} → (A → B) → Type 0
Domain {A} f = A

-- a place in a record, and what an entry does there
abbrev pub Place : Type 0
Place = Domain admits

abbrev Role : Type 0
Role = Domain after_role

-- behind a start, and behind an end
abbrev pub running : Place
running = after_role (role_of (entry.Started []))

abbrev pub ended : Place
ended = after_role (role_of (entry.End 0))

-- where a session of a phase stands in its record
abbrev pub PhaseAt : Phase → Place → Type 0
PhaseAt Unstarted q = Unit {0}
PhaseAt Open q = q ≡ running
PhaseAt Ended q = q ≡ ended
PhaseAt Closed q = q ≡ ended
PhaseAt Waited q = Unit {0}

-- where an action may be asked of a session that has begun
abbrev pub Allowed : Action → Phase → Place → Type 0
Allowed (action.Spawn words) p q = ⊥
Allowed (action.Send bytes) p q = (p ≡ Open) × (q ≡ running)
Allowed (action.Read limit) p q = (p ≡ Open) × (q ≡ running)
Allowed action.Close p q = q ≡ running
Allowed action.Wait p q = q ≡ ended

at : (q r : Place) (x : Role) → q ≡ r → admits r x ≡ true → admits q x ≡ true
at q r x same here = ap (λ m. admits m x) same ∙ here

stays_open : (p : Phase) → p ≡ Open → PhaseAt p running
stays_open p is = subst (λ m. PhaseAt m running) (sym is) refl

-- the entry may come there, and the session's phase behind it is that of the place behind it
pub admitted : (a : Action) (e : Entry) (p : Phase) (q : Place) → Allowed a p q → Made a e
    → (admits q (role_of e) ≡ true) × PhaseAt (phase_behind e p) (after_role (role_of e))
admitted (action.Send bytes) (entry.Sent given) p q here made = (at q running (role_of (entry.Sent given)) here.1 refl, stays_open p here.0)
admitted (action.Send bytes) (entry.NoSend code given) p q here made = (at q running (role_of (entry.NoSend code given)) here.1 refl, stays_open p here.0)
admitted (action.Read limit) (entry.Chunk wait bytes) p q here made = (at q running (role_of (entry.Chunk wait bytes)) here.1 refl, stays_open p here.0)
admitted (action.Read limit) (entry.End wait) p q here made = (at q running (role_of (entry.End wait)) here.1 refl, refl)
admitted (action.Read limit) (entry.NoRead code) p q here made = (at q running (role_of (entry.NoRead code)) here.1 refl, refl)
admitted (action.Read limit) (entry.Silence wait) p q here made = (at q running (role_of (entry.Silence wait)) here.1 refl, stays_open p here.0)
admitted action.Close entry.Closed p q here made = (at q running (role_of entry.Closed) here refl, refl)
admitted action.Close (entry.NoClose code) p q here made = (at q running (role_of (entry.NoClose code)) here refl, refl)
admitted action.Wait (entry.Exited status) p q here made = (at q ended (role_of (entry.Exited status)) here refl, tt)
admitted action.Wait (entry.Killed signal) p q here made = (at q ended (role_of (entry.Killed signal)) here refl, tt)
admitted action.Wait (entry.NoWait code) p q here made = (at q ended (role_of (entry.NoWait code)) here refl, tt)
admitted (action.Spawn words) e p q here made = absurd here
admitted a e p q here made = absurd made

words-fit : (words given : List (List ℕ)) → given ≡ words → (0 < length words) × (length words ≤ 64) → AllByRecursion IsBytes given → WordsFit given
words-fit words given same fit bytes =
    (subst (λ ws. 0 < length ws) (sym same) fit.0, subst (λ ws. length ws ≤ 64) (sym same) fit.1, bytes)

bytes-fit : (text given : List ℕ) → given ≡ text → (0 < length text) × (length text ≤ 1048576) → IsBytes given → BytesFit 1048576 given
bytes-fit text given same fit bytes =
    (subst (λ bs. 0 < length bs) (sym same) fit.0, subst (λ bs. length bs ≤ 1048576) (sym same) fit.1, bytes)

-- the entry keeps the limits, where the action does
pub made-fits : (a : Action) (e : Entry) → ActionFits a → Made a e → IsOfBytes e → EntryFits e
made-fits (action.Spawn words) (entry.Started given) fit made bytes = words-fit words given made fit bytes
made-fits (action.Spawn words) (entry.NoStart code given) fit made bytes = words-fit words given made fit bytes
made-fits (action.Send text) (entry.Sent given) fit made bytes = bytes-fit text given made fit bytes
made-fits (action.Send text) (entry.NoSend code given) fit made bytes = bytes-fit text given made fit bytes
made-fits (action.Read limit) (entry.Chunk wait text) fit made bytes = (omega (arith, made.0, fit), (omega (arith, made.1), made.2, bytes))
made-fits (action.Read limit) (entry.End wait) fit made bytes = omega (arith, made, fit)
made-fits (action.Read limit) (entry.NoRead code) fit made bytes = tt
made-fits (action.Read limit) (entry.Silence wait) fit made bytes = omega (arith, made, fit)
made-fits action.Close entry.Closed fit made bytes = tt
made-fits action.Close (entry.NoClose code) fit made bytes = tt
made-fits action.Wait (entry.Exited status) fit made bytes = bytes
made-fits action.Wait (entry.Killed signal) fit made bytes = made
made-fits action.Wait (entry.NoWait code) fit made bytes = tt
made-fits a e fit made bytes = absurd made
