-- What commands change of a state, without the sessions' places.
use Rattle.std.specs.List.{list_any}
use Rattle.std.proofs.Common.{◌&&◌, ◌≡◌, ℕ, zero, suc, ◌+◌, ◌-◌, Bool, true, false, List, [], ◌∷◌, ◌++◌, length, set, refl, sym, subst, ap, ◌∙◌}
use Rattle.std.specs.Prelude.{Option, Some, None, nat_lt, is_some, slice_get, decimal, codes, take}
use Rattle.std.proofs.lemmas.Option.{same_Some}
use Rattle.dg_glob.specs.declared.glob.Span.{Span}
use Rattle.dg_match.specs.declared.hit.Hit.{Hit}
use Rattle.dg_results.specs.declared.call.ResultCall.{ResultCall}
use Rattle.dg_transcript.specs.declared.entry.Entry.{Entry}
use Rattle.dg_sessions.specs.Views.{SessionView, session_at}
use Rattle.dg_sessions.specs.Steps.{changed_at, changed, emptied, taken, limited}
use Rattle.dg_language.specs.declared.procedure.Binding.{Binding}
use Rattle.dg_language.specs.declared.procedure.Procedure.{Procedure}
use Rattle.dg_language.specs.State.{State, with_board_made, with_call, began, began_with, assigned, unassigned, linked, defined, entered, departed, in_action, out_of_action, with_sessions, marked, in_library, setting_of, with_setting, without_setting}
use Rattle.dg_language.specs.Variables.{all_linked}
use Rattle.dg_cmds.specs.Places.{glob_matches}
use Rattle.dg_language.specs.declared.command.FlagCommand.{FlagCommand}
use Rattle.dg_language.specs.Boards.{is_pattern, flag_call, flagged}
use Rattle.dg_language.specs.Expecting.{out_name, group_text, with_groups, with_removed, with_match, with_end}
use Rattle.dg_living.proofs.Admitting.{PhaseAt}
use Rattle.dg_living.proofs.Agreeing.{standing, Agrees, AllAgree}
use Rattle.dg_living.proofs.Holding.{Same}

pub stays : (s : State) → Same s s
stays s = record { test = refl; known = refl; used = refl; agree = λ ss h. h }

pub then_same : {s t u : State} → Same s t → Same t u → Same s u
then_same a b =
    record { test = b.test ∙ a.test; known = b.known ∙ a.known; used = b.used ∙ a.used; agree = λ ss h. b.agree ss (a.agree ss h) }

pub with_board_made-same : (s : State) → Same s (with_board_made s)
unfolding with_board_made
with_board_made-same s = record { test = refl; known = refl; used = refl; agree = λ ss h. h }

pub with_call-same : (c : ResultCall) (s : State) → Same s (with_call c s)
unfolding with_call
with_call-same c s = record { test = refl; known = refl; used = refl; agree = λ ss h. h }

pub began-same : (g : List ℕ) (s : State) → Same s (began g s)
unfolding began
began-same g s = record { test = refl; known = refl; used = refl; agree = λ ss h. h }

pub began-sessions : (g : List ℕ) (s : State) → (began g s).sessions ≡ s.sessions
unfolding began
began-sessions g s = refl

pub began_with-same : (g v : List ℕ) (s : State) → Same s (began_with g v s)
unfolding began_with
began_with-same g v s = record { test = refl; known = refl; used = refl; agree = λ ss h. h }

pub began_with-sessions : (g v : List ℕ) (s : State) → (began_with g v s).sessions ≡ s.sessions
unfolding began_with
began_with-sessions g v s = refl

pub assigned-same : (n v : List ℕ) (s : State) → Same s (assigned n v s)
unfolding assigned
assigned-same n v s = record { test = refl; known = refl; used = refl; agree = λ ss h. h }

pub unassigned-same : (n : List ℕ) (s : State) → Same s (unassigned n s)
unfolding unassigned
unassigned-same n s = record { test = refl; known = refl; used = refl; agree = λ ss h. h }

linked-same : (n : List ℕ) (s : State) → Same s (linked n s)
unfolding linked
linked-same n s = record { test = refl; known = refl; used = refl; agree = λ ss h. h }

pub all_linked-same : (ns : List (List ℕ)) (s : State) → Same s (all_linked ns s)
all_linked-same [] s = stays s
all_linked-same (n ∷ ns) s = then_same (linked-same n s) (all_linked-same ns (linked n s))

pub defined-same : (n : List ℕ) (p : Procedure) (s : State) → Same s (defined n p s)
unfolding defined
defined-same n p s = record { test = refl; known = refl; used = refl; agree = λ ss h. h }

pub entered-same : (bs : List Binding) (s : State) → Same s (entered bs s)
unfolding entered
entered-same bs s = record { test = refl; known = refl; used = refl; agree = λ ss h. h }

by_test : (b : Bool) {s t u : State} → Same s t → Same s u → Same s (elim b as (λ _. State) [ true ↦ t | false ↦ u ])
by_test true a b = a
by_test false a b = b

pub departed-same : (s : State) → Same s (departed s)
unfolding departed
departed-same s =
    by_test (nat_lt 1 (length s.variables.scopes))
    (record { test = refl; known = refl; used = refl; agree = λ ss h. h })
    (record { test = refl; known = refl; used = refl; agree = λ ss h. h })

pub in_action-same : (s : State) → Same s (in_action s)
unfolding in_action
in_action-same s = record { test = refl; known = refl; used = refl; agree = λ ss h. h }

pub out_of_action-same : (s : State) → Same s (out_of_action s)
unfolding out_of_action
out_of_action-same s = record { test = refl; known = refl; used = refl; agree = λ ss h. h }

pub marked-same : (name : List ℕ) (s : State) → Same s (marked name s)
unfolding marked
marked-same name s = record { test = refl; known = refl; used = refl; agree = λ ss h. h }

pub in_library-same : (name : List ℕ) (s : State) → Same s (in_library name s)
unfolding in_library
in_library-same name s = record { test = refl; known = refl; used = refl; agree = λ ss h. h }

pub with_setting-same : (key value : List ℕ) (s : State) → Same s (with_setting key value s)
unfolding with_setting
with_setting-same key value s =
    by_test (is_some (setting_of key s)) (stays s) (record { test = refl; known = refl; used = refl; agree = λ ss h. h })

pub without_setting-same : (key : List ℕ) (s : State) → Same s (without_setting key s)
unfolding without_setting
without_setting-same key s = record { test = refl; known = refl; used = refl; agree = λ ss h. h }

pub flagged-same : (c : FlagCommand) (target : List ℕ) (args : List (List ℕ)) (s : State) → Same s (flagged c target args s)
flagged-same c target args s =
    by_test (list_any (λ p. is_pattern p && glob_matches p target) args) (with_call-same (flag_call c) s) (stays s)

-- ---- buffers and limits

-- a session's place and phase are left
pub record IsQuiet (f : SessionView → SessionView) : Type 0 where
  pub cursor : (v : SessionView) → (f v).cursor ≡ v.cursor
  pub phase : (v : SessionView) → (f v).phase ≡ v.phase

quiet-agrees : (f : SessionView → SessionView) (v : SessionView) (es : List Entry) → IsQuiet f → Agrees v es → Agrees (f v) es
quiet-agrees f v es quiet a =
    record {
      wait = ap (λ c. c.wait) (quiet.cursor v) ∙ a.wait;
      place = ap (λ c. c.place) (quiet.cursor v) ∙ a.place;
      phase = subst (λ p. PhaseAt p (standing es)) (sym (quiet.phase v)) a.phase;
      session = a.session;
    }

quiet-set : (f : SessionView → SessionView) (vs : List SessionView) (ss : List (List Entry)) (i : ℕ) (v : SessionView) → IsQuiet f
    → slice_get vs i ≡ Some v → AllAgree vs ss → AllAgree (set vs i (f v)) ss
quiet-set f [] ss i v quiet there all = absurd cc
quiet-set f (x ∷ vs) [] i v quiet there all = absurd all
quiet-set f (x ∷ vs) (es ∷ ss) zero v quiet there all = (quiet-agrees f v es quiet (subst (λ w. Agrees w es) (same_Some x v there) all.0), all.1)
quiet-set f (x ∷ vs) (es ∷ ss) (suc i) v quiet there all = (all.0, quiet-set f vs ss i v quiet there all.1)

pub changed-same : (n : ℕ) (f : SessionView → SessionView) (s : State) → IsQuiet f → Same s (with_sessions (changed n f s.sessions) s)
unfolding with_sessions
changed-same n f s quiet = go (session_at n s.sessions) refl
  where
    go : (o : Option SessionView) → session_at n s.sessions ≡ o → Same s (record s { sessions = changed_at n f s.sessions o })
    go None there = record { test = refl; known = refl; used = refl; agree = λ ss h. h }
    go (Some v) there = record { test = refl; known = refl; used = refl; agree = λ ss h. quiet-set f s.sessions.all ss (n - 1) v quiet there h }

-- the limit of later sessions
pub later-same : (max : ℕ) (s : State) → Same s (with_sessions (record s.sessions { max = max }) s)
unfolding with_sessions
later-same max s = record { test = refl; known = refl; used = refl; agree = λ ss h. h }

pub limited-quiet : (max : ℕ) → IsQuiet (limited max)
limited-quiet max = record { cursor = λ v. refl; phase = λ v. refl }

taken-quiet : (n : ℕ) → IsQuiet (taken n)
taken-quiet n = record { cursor = λ v. refl; phase = λ v. refl }

emptied-quiet : IsQuiet emptied
emptied-quiet = record { cursor = λ v. refl; phase = λ v. refl }

-- ---- what a match and an end leave

with_groups-same : (r n : ℕ) (bytes : List ℕ) (gs : List (Option Span)) (s : State) → Same s (with_groups r n bytes gs s)
unfolding with_groups
with_groups-same zero n bytes gs s = stays s
with_groups-same (suc r) n bytes [] s = stays s
with_groups-same (suc r) n bytes (g ∷ gs) s =
    then_same (assigned-same (out_name (decimal n ++ codes ",string")) (group_text bytes g) s) (with_groups-same r (n + 1) bytes gs _)

with_removed-same : (n : ℕ) (bytes : List ℕ) (s : State) → Same s (with_removed n bytes s)
with_removed-same n bytes s = then_same (assigned-same _ bytes s) (assigned-same _ _ _)

pub with_match-same : (n : ℕ) (bytes : List ℕ) (h : Hit) (s : State) → Same s (with_match n bytes h s)
unfolding with_match
with_match-same n bytes h s =
    then_same (changed-same n (taken h.end) s (taken-quiet h.end))
    (then_same (assigned-same _ _ _) (then_same (with_groups-same 9 1 bytes h.groups _) (with_removed-same n (take h.end bytes) _)))

pub with_end-same : (n : ℕ) (bytes : List ℕ) (s : State) → Same s (with_end n bytes s)
unfolding with_end
with_end-same n bytes s = then_same (changed-same n emptied s emptied-quiet) (with_removed-same n bytes _)
