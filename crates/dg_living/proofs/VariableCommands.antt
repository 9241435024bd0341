-- The commands on variables.
use Rattle.std.proofs.Common.{◌≡◌, ℕ, Bool, true, false, List, [], ◌∷◌, length, refl, ◌∙◌}
use Rattle.std.specs.Prelude.{Option, Some, None, is_some, nat_eq, codes, Result, Ok, Err}
use Rattle.std.specs.Cmp.Lexicographic.{pointwise}
use Rattle.dg_scope.specs.Names.{global_name}
use Rattle.dg_scope.specs.Scopes.{value_of}
use Rattle.dg_world.specs.declared.question.Question.TheVariants.{Variable}
use Rattle.dg_language.specs.declared.code.Code.TheVariants.{Done}
use Rattle.dg_language.specs.declared.command.VariableCommand.{VariableCommand}
use Rattle.dg_language.specs.declared.command.VariableCommand.TheVariants.{Set, Append, ListAppend, Increase, Unset as UnsetCommand, Info, Global}
use Rattle.dg_language.specs.Play.{Play}
use Rattle.dg_language.specs.State.{State, began, began_with, assigned, unassigned}
use Rattle.dg_expr.specs.Truth.{truth_text}
use Rattle.dg_language.specs.Evaluation.{Ending, Then, list_in}
use Rattle.dg_language.specs.Arguments.{split_first, only}
use Rattle.dg_language.specs.Variables.{is_to_begin, first_value, begin, touch, given, read_variable, store, or_empty, set_of, do_set, do_append, with_appended, append_elements, do_lappend, addend, or_zero, increased, with_sum, add_number, do_incr, unset_one, unset_all, unset_names, do_unset, info_of, do_info, all_linked, do_global, do_variable}
use Rattle.dg_living.proofs.Steps.{Lives}
use Rattle.dg_living.proofs.Changes.{began-same, began-sessions, began_with-same, began_with-sessions, assigned-same, unassigned-same, all_linked-same}
use Rattle.dg_living.proofs.Steps.{completes, along, either, on-lives, ask-lives, within-lives, fail-lives}

begin-lives : (g : List ℕ) (v : Option (List ℕ)) (s : State) {f : State → Then → Play Ending}
    → ((u : State) → u.sessions ≡ s.sessions → Lives u (f u)) → Lives s (λ k. begin g v s (λ u. f u k))
begin-lives g None s f = along (began-same g s) (f (began g s) (began-sessions g s))
begin-lives g (Some v) s f = within-lives (length v) s (along (began_with-same g v s) (f (began_with g v s) (began_with-sessions g v s)))

pub touch-lives : (n : List ℕ) (s : State) {f : State → Then → Play Ending} → ((u : State) → u.sessions ≡ s.sessions → Lives u (f u))
    → Lives s (λ k. touch n s (λ u. f u k))
unfolding touch
touch-lives n s f =
    either (is_to_begin n s)
    (ask-lives (Variable (global_name n)) s refl (λ a u same.
    begin-lives (global_name n) (first_value (global_name n) a) u (λ w still. f w (still ∙ same))))
    (f s refl)

given-lives : (v : Option (List ℕ)) (n : List ℕ) (s : State) → Lives s (given v n s)
given-lives (Some v) n s = completes Done v s
given-lives None n s = fail-lives _ s

pub read_variable-lives : (n : List ℕ) (s : State) → Lives s (read_variable n s)
unfolding read_variable
read_variable-lives n s = touch-lives n s (λ s' _. given-lives (value_of s'.variables n) n s')

store-lives : (n v : List ℕ) (s : State) → Lives s (store n v s)
unfolding store
store-lives n v s = within-lives (length v) s (along (assigned-same n v s) (completes Done v (assigned n v s)))

set_of-lives : (n : List ℕ) (more : List (List ℕ)) (s : State) → Lives s (set_of n more s)
set_of-lives n [] s = read_variable-lives n s
set_of-lives n (v ∷ []) s = touch-lives n s (λ s' _. store-lives n v s')
set_of-lives n (_ ∷ _ ∷ _) s = fail-lives _ s

do_set-lives : (args : List (List ℕ)) (s : State) → Lives s (do_set args s)
unfolding do_set
do_set-lives args s = on-lives (split_first args) (fail-lives _ s) (λ p. set_of-lives p.0 p.1 s)

do_append-lives : (args : List (List ℕ)) (s : State) → Lives s (do_append args s)
unfolding do_append
do_append-lives args s =
    on-lives (split_first args) (fail-lives _ s) (λ p. touch-lives p.0 s (λ s' _. store-lives p.0 _ s'))

with_appended-lives : (n old : List ℕ) (vs : List (List ℕ)) (elements : Result (List (List ℕ)) (List ℕ)) (s : State)
    → Lives s (with_appended n old vs elements s)
with_appended-lives n old vs (Err message) s = fail-lives message s
with_appended-lives n old vs (Ok elements) s = store-lives n _ s

append_elements-lives : (n old : List ℕ) (vs : List (List ℕ)) (s : State) → Lives s (append_elements n old vs s)
unfolding append_elements
append_elements-lives n old vs s = with_appended-lives n old vs (list_in old) s

do_lappend-lives : (args : List (List ℕ)) (s : State) → Lives s (do_lappend args s)
unfolding do_lappend
do_lappend-lives args s =
    on-lives (split_first args) (fail-lives _ s) (λ p.
    touch-lives p.0 s (λ s' _. append_elements-lives p.0 (or_empty (value_of s'.variables p.0)) p.1 s'))

with_sum-lives : (n : List ℕ) (sum : Result (List ℕ) (List ℕ)) (s : State) → Lives s (with_sum n sum s)
with_sum-lives n (Err message) s = fail-lives message s
with_sum-lives n (Ok v) s = store-lives n v s

add_number-lives : (n by : List ℕ) (s : State) → Lives s (add_number n by s)
unfolding add_number
add_number-lives n by s = with_sum-lives n (increased (or_zero (value_of s.variables n)) by) s

do_incr-lives : (args : List (List ℕ)) (s : State) → Lives s (do_incr args s)
unfolding do_incr
do_incr-lives args s =
    on-lives (split_first args) (fail-lives _ s) (λ p.
    on-lives (addend p.1) (fail-lives _ s) (λ by. touch-lives p.0 s (λ s' _. add_number-lives p.0 by s')))

unset_one-lives : (complains is_set : Bool) (n : List ℕ) (s : State) {f : State → Then → Play Ending} → ((s' : State) → Lives s' (f s'))
    → Lives s (λ k. unset_one complains is_set n s (λ s'. f s' k) k)
unset_one-lives complains true n s f = along (unassigned-same n s) (f (unassigned n s))
unset_one-lives true false n s f = fail-lives _ s
unset_one-lives false false n s f = f s

unset_all-lives : (complains : Bool) (ns : List (List ℕ)) (s : State) → Lives s (unset_all complains ns s)
unfolding unset_all
unset_all-lives complains [] s = completes Done [] s
unset_all-lives complains (n ∷ ns) s =
    touch-lives n s (λ s' _. unset_one-lives complains (is_some (value_of s'.variables n)) n s' (λ t. unset_all-lives complains ns t))

do_unset-lives : (args : List (List ℕ)) (s : State) → Lives s (do_unset args s)
unfolding do_unset
do_unset-lives args s = unset_all-lives (unset_names args).0 (unset_names args).1 s

info_of-lives : (exists : Bool) (args : List (List ℕ)) (s : State) → Lives s (info_of exists args s)
info_of-lives false args s = fail-lives _ s
info_of-lives true args s =
    on-lives (only args) (fail-lives _ s) (λ n. touch-lives n s (λ s' _. completes Done (truth_text (is_some (value_of s'.variables n))) s'))

do_info-lives : (args : List (List ℕ)) (s : State) → Lives s (do_info args s)
unfolding do_info
do_info-lives args s =
    on-lives (split_first args) (fail-lives _ s) (λ p. info_of-lives (pointwise nat_eq p.0 (codes "exists")) p.1 s)

do_global-lives : (args : List (List ℕ)) (s : State) → Lives s (do_global args s)
unfolding do_global
do_global-lives args s = along (all_linked-same args s) (completes Done [] (all_linked args s))

pub do_variable-lives : (c : VariableCommand) (args : List (List ℕ)) (s : State) → Lives s (do_variable c args s)
do_variable-lives Set args s = do_set-lives args s
do_variable-lives Append args s = do_append-lives args s
do_variable-lives ListAppend args s = do_lappend-lives args s
do_variable-lives Increase args s = do_incr-lives args s
do_variable-lives UnsetCommand args s = do_unset-lives args s
do_variable-lives Info args s = do_info-lives args s
do_variable-lives Global args s = do_global-lives args s
