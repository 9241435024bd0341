-- What was taken of each session, where one of them changes or one more comes.
use Rattle.std.proofs.Common.{ℕ, zero, suc, ◌≡◌, ◌≢◌, ◌-◌, ◌<◌, List, [], ◌∷◌, ◌++◌, length, refl, sym, ap, ◌∙◌, subst, arith, slice_set, slice_index_or}
use Rattle.std.specs.Prelude.{Option, Some, None, Result, Ok, Err, IfOk, IfErr, reverse}
use Rattle.dg_transcript.specs.declared.code.ErrorCode.{ErrorCode}
use Rattle.dg_transcript.specs.declared.cursor.Action.{Action}
use Rattle.dg_gate.specs.declared.fault.GateFault.{GateFault}
use Rattle.dg_gate.specs.declared.fault.GateFault.TheVariants as fault
use Rattle.dg_gate.specs.declared.reply.Reply.{Reply}
use Rattle.dg_gate.specs.declared.reply.Reply.TheVariants as reply
use Rattle.dg_pipes.specs.declared.account.Account.{Account}
use Rattle.dg_pipes.specs.declared.session.Session.{Session}
use Rattle.dg_pipes.specs.declared.slot.Slot.{Slot}
use Rattle.dg_pipes.specs.Steps.{taken_of, taken, Joins, PipeStep, FailsBy, TellsOf, AccountsFrom, Accounts}

here : (ss : List Slot) (i : ℕ) (s : Slot) → i < length ss → s ≡ slice_index_or ss i s → taken ss i ≡ taken_of s.output
here [] i s room e = absurd (omega arith)
here (x ∷ xs) zero s room e = ap (λ y. taken_of y.output) (sym e)
here (x ∷ xs) (suc i) s room e = here xs i s (omega arith) e

set_here : (ss : List Slot) (i : ℕ) (s : Slot) → i < length ss → taken (slice_set ss i s) i ≡ taken_of s.output
set_here [] i s room = absurd (omega arith)
set_here (x ∷ xs) zero s room = refl
set_here (x ∷ xs) (suc i) s room = set_here xs i s (omega arith)

set_there : (ss : List Slot) (i j : ℕ) (s : Slot) → j ≢ i → taken (slice_set ss i s) j ≡ taken ss j
set_there [] i j s other = refl
set_there (x ∷ xs) zero zero s other = absurd (other refl)
set_there (x ∷ xs) zero (suc j) s other = refl
set_there (x ∷ xs) (suc i) zero s other = refl
set_there (x ∷ xs) (suc i) (suc j) s other = set_there xs i j s (λ e. other (ap suc e))

past : (ss : List Slot) → taken ss (length ss) ≡ []
past [] = refl
past (x ∷ xs) = past xs

pushed_here : (ss : List Slot) (s : Slot) → taken (ss ++ s ∷ []) (length ss) ≡ taken_of s.output
pushed_here [] s = refl
pushed_here (x ∷ xs) s = pushed_here xs s

pushed_there : (ss : List Slot) (s : Slot) (j : ℕ) → j ≢ length ss → taken (ss ++ s ∷ []) j ≡ taken ss j
pushed_there [] s zero other = absurd (other refl)
pushed_there [] s (suc j) other = refl
pushed_there (x ∷ xs) s zero other = refl
pushed_there (x ∷ xs) s (suc j) other = pushed_there xs s j (λ e. other (ap suc e))

-- one session was called
written : (before : List Slot) (session : ℕ) (call : Action) (told : Reply) (s t : Slot) → session - 1 < length before → s ≡ slice_index_or before (session - 1) s
    → Joins call told (taken_of s.output) (taken_of t.output) → PipeStep before session call told (slice_set before (session - 1) t)
written before session call told s t room is joins = (
  subst (λ items. Joins call told items (taken (slice_set before (session - 1) t) (session - 1))) (sym (here before (session - 1) s room is))
      (subst (λ items. Joins call told (taken_of s.output) items) (sym (set_here before (session - 1) t room)) joins),
  λ i other. set_there before (session - 1) i t other,
)

pub joined_at : (before : List Slot) (session place : ℕ) (call : Action) (told : Reply) (s t : Slot) → place ≡ session - 1 → place < length before → s ≡ slice_index_or before place s
    → Joins call told (taken_of s.output) (taken_of t.output) → PipeStep before session call told (slice_set before place t)
joined_at before session place call told s t at room is joins =
    subst (λ k. PipeStep before session call told (slice_set before k t)) (sym at)
    (written before session call told s t (subst (λ k. k < length before) at room) (subst (λ k. s ≡ slice_index_or before k s) at is) joins)

-- one session was called, and keeps its output
pub kept_at : (before : List Slot) (session place : ℕ) (call : Action) (told : Reply) (s t : Slot) → place ≡ session - 1 → place < length before → s ≡ slice_index_or before place s
    → t.output ≡ s.output → Joins call told (taken_of s.output) (taken_of s.output) → PipeStep before session call told (slice_set before place t)
kept_at before session place call told s t at room is same joins =
    joined_at before session place call told s t at room is (subst (λ o. Joins call told (taken_of s.output) (taken_of o)) (sym same) joins)

-- a session came behind the others
pub pushed : (before middle after : List Slot) (session : ℕ) (call : Action) (told : Reply) (s : Slot) → after ≡ middle ++ s ∷ [] → middle ≡ before → session - 1 ≡ length before
    → taken_of s.output ≡ [] → Joins call told [] [] → PipeStep before session call told after
pushed before middle after session call told s new same is none joins =
    let whole : after ≡ before ++ s ∷ [] = new ∙ ap (λ ss. ss ++ s ∷ []) same in
    subst (λ ss. PipeStep before session call told ss) (sym whole) (
      subst (λ i. Joins call told (taken before i) (taken (before ++ s ∷ []) i)) (sym is)
          (subst (λ items. Joins call told items (taken (before ++ s ∷ []) (length before))) (sym (past before))
          (subst (λ items. Joins call told [] items) (sym (pushed_here before s ∙ none)) joins)),
      λ i other. pushed_there before s i (λ e. other (e ∙ sym is)),
    )

-- a failure of any kind
pub fails_by : (Step : Reply → Type 0) (f : GateFault) → ((code : ErrorCode) → Step (reply.Failed code)) → FailsBy Step f
fails_by Step (fault.Device code) steps = steps code
fails_by Step fault.Memory steps = tt

-- what holds of a value or of an error
pub if_ok : {A E : Type 0} (r : Result A E) (P Q : A → Type 0) → IfOk r P → ((x : A) → P x → Q x) → IfOk r Q
if_ok (Ok x) P Q p f = f x p
if_ok (Err e) P Q p f = p

pub if_err : {A E : Type 0} (r : Result A E) (P Q : E → Type 0) → IfErr r P → ((x : E) → P x → Q x) → IfErr r Q
if_err (Ok x) P Q p f = p
if_err (Err e) P Q p f = f e p

pub all_ok : {A E : Type 0} (r : Result A E) (Q : A → Type 0) → ((x : A) → Q x) → IfOk r Q
all_ok (Ok x) Q f = f x
all_ok (Err e) Q f = tt

pub all_err : {A E : Type 0} (r : Result A E) (Q : E → Type 0) → ((x : E) → Q x) → IfErr r Q
all_err (Ok x) Q f = tt
all_err (Err e) Q f = f e

front : (n : ℕ) (o : Option Session) (Rest : List Account → Type 0) (told : List Account) (a : Account) → a.session ≡ n → TellsOf o a → Rest told → AccountsFrom n o Rest (a ∷ told)
front n None Rest told a number tells so = absurd tells
front n (Some t) Rest told a number tells so = (a, told, refl, number, tells, so)

-- of all sessions some are left, and the others' accounts are there, the last session's first
abbrev pub Told : List Slot → List Slot → List Account → Type 0
Told total left told = (done : List Slot) × (total ≡ left ++ done) × Accounts done (reverse told)
