-- The commands on variables.
use Rattle.std.proofs.Common.{ℕ, Bool, true, false, List, [], ◌∷◌, length}
use Rattle.std.specs.Prelude.{Option, Some, None, is_some, nat_eq, codes, Result, Ok, Err}
use Rattle.std.specs.Cmp.Lexicographic.{pointwise}
use Rattle.dg_scope.specs.Names.{global_name}
use Rattle.dg_scope.specs.Scopes.{value_of}
use Rattle.dg_world.specs.declared.question.Question.TheVariants.{Variable}
use Rattle.dg_language.specs.declared.code.Code.TheVariants.{Done}
use Rattle.dg_language.specs.declared.command.VariableCommand.{VariableCommand}
use Rattle.dg_language.specs.declared.command.VariableCommand.TheVariants.{Set, Append, ListAppend, Increase, Unset as UnsetCommand, Info, Global}
use Rattle.dg_language.specs.Play.{Play}
use Rattle.dg_language.specs.State.{State, began, began_with, assigned, unassigned}
use Rattle.dg_expr.specs.Truth.{truth_text}
use Rattle.dg_language.specs.Evaluation.{Ending, Then, list_in}
use Rattle.dg_language.specs.Arguments.{split_first, only}
use Rattle.dg_language.specs.Variables.{is_to_begin, first_value, begin, touch, given, read_variable, store, or_empty, set_of, do_set, do_append, with_appended, append_elements, do_lappend, addend, or_zero, increased, with_sum, add_number, do_incr, unset_one, unset_all, unset_names, do_unset, info_of, do_info, all_linked, do_global, do_variable}
use Rattle.dg_laws.specs.Grafting.{Grafted}
use Rattle.dg_laws.proofs.Steps.{completes, either, on-grafted, ask-grafted, within-grafted, fail-grafted}

begin-grafted : (g : List ℕ) (v : Option (List ℕ)) (s : State) {f : State → Then → Play Ending} → ((s' : State) → Grafted (f s'))
    → Grafted (λ k. begin g v s (λ s'. f s' k))
begin-grafted g None s f = f (began g s)
begin-grafted g (Some v) s f = within-grafted (length v) s (f (began_with g v s))

pub touch-grafted : (n : List ℕ) (s : State) {f : State → Then → Play Ending} → ((s' : State) → Grafted (f s'))
    → Grafted (λ k. touch n s (λ s'. f s' k))
unfolding touch
touch-grafted n s f =
    either (is_to_begin n s)
    (ask-grafted (Variable (global_name n)) s (λ a s'. begin-grafted (global_name n) (first_value (global_name n) a) s' f))
    (f s)

given-grafted : (v : Option (List ℕ)) (n : List ℕ) (s : State) → Grafted (given v n s)
given-grafted (Some v) n s = completes Done v s
given-grafted None n s = fail-grafted _ s

pub read_variable-grafted : (n : List ℕ) (s : State) → Grafted (read_variable n s)
unfolding read_variable
read_variable-grafted n s = touch-grafted n s (λ s'. given-grafted (value_of s'.variables n) n s')

store-grafted : (n v : List ℕ) (s : State) → Grafted (store n v s)
unfolding store
store-grafted n v s = within-grafted (length v) s (completes Done v (assigned n v s))

set_of-grafted : (n : List ℕ) (more : List (List ℕ)) (s : State) → Grafted (set_of n more s)
set_of-grafted n [] s = read_variable-grafted n s
set_of-grafted n (v ∷ []) s = touch-grafted n s (λ s'. store-grafted n v s')
set_of-grafted n (_ ∷ _ ∷ _) s = fail-grafted _ s

do_set-grafted : (args : List (List ℕ)) (s : State) → Grafted (do_set args s)
unfolding do_set
do_set-grafted args s = on-grafted (split_first args) (fail-grafted _ s) (λ p. set_of-grafted p.0 p.1 s)

do_append-grafted : (args : List (List ℕ)) (s : State) → Grafted (do_append args s)
unfolding do_append
do_append-grafted args s =
    on-grafted (split_first args) (fail-grafted _ s) (λ p. touch-grafted p.0 s (λ s'. store-grafted p.0 _ s'))

with_appended-grafted : (n old : List ℕ) (vs : List (List ℕ)) (elements : Result (List (List ℕ)) (List ℕ)) (s : State)
    → Grafted (with_appended n old vs elements s)
with_appended-grafted n old vs (Err message) s = fail-grafted message s
with_appended-grafted n old vs (Ok elements) s = store-grafted n _ s

append_elements-grafted : (n old : List ℕ) (vs : List (List ℕ)) (s : State) → Grafted (append_elements n old vs s)
unfolding append_elements
append_elements-grafted n old vs s = with_appended-grafted n old vs (list_in old) s

do_lappend-grafted : (args : List (List ℕ)) (s : State) → Grafted (do_lappend args s)
unfolding do_lappend
do_lappend-grafted args s =
    on-grafted (split_first args) (fail-grafted _ s) (λ p.
    touch-grafted p.0 s (λ s'. append_elements-grafted p.0 (or_empty (value_of s'.variables p.0)) p.1 s'))

with_sum-grafted : (n : List ℕ) (sum : Result (List ℕ) (List ℕ)) (s : State) → Grafted (with_sum n sum s)
with_sum-grafted n (Err message) s = fail-grafted message s
with_sum-grafted n (Ok v) s = store-grafted n v s

add_number-grafted : (n by : List ℕ) (s : State) → Grafted (add_number n by s)
unfolding add_number
add_number-grafted n by s = with_sum-grafted n (increased (or_zero (value_of s.variables n)) by) s

do_incr-grafted : (args : List (List ℕ)) (s : State) → Grafted (do_incr args s)
unfolding do_incr
do_incr-grafted args s =
    on-grafted (split_first args) (fail-grafted _ s) (λ p.
    on-grafted (addend p.1) (fail-grafted _ s) (λ by. touch-grafted p.0 s (λ s'. add_number-grafted p.0 by s')))

unset_one-grafted : (complains is_set : Bool) (n : List ℕ) (s : State) {f : State → Then → Play Ending} → ((s' : State) → Grafted (f s'))
    → Grafted (λ k. unset_one complains is_set n s (λ s'. f s' k) k)
unset_one-grafted complains true n s f = f (unassigned n s)
unset_one-grafted true false n s f = fail-grafted _ s
unset_one-grafted false false n s f = f s

unset_all-grafted : (complains : Bool) (ns : List (List ℕ)) (s : State) → Grafted (unset_all complains ns s)
unfolding unset_all
unset_all-grafted complains [] s = completes Done [] s
unset_all-grafted complains (n ∷ ns) s =
    touch-grafted n s (λ s'. unset_one-grafted complains (is_some (value_of s'.variables n)) n s' (λ t. unset_all-grafted complains ns t))

do_unset-grafted : (args : List (List ℕ)) (s : State) → Grafted (do_unset args s)
unfolding do_unset
do_unset-grafted args s = unset_all-grafted (unset_names args).0 (unset_names args).1 s

info_of-grafted : (exists : Bool) (args : List (List ℕ)) (s : State) → Grafted (info_of exists args s)
info_of-grafted false args s = fail-grafted _ s
info_of-grafted true args s =
    on-grafted (only args) (fail-grafted _ s) (λ n. touch-grafted n s (λ s'. completes Done (truth_text (is_some (value_of s'.variables n))) s'))

do_info-grafted : (args : List (List ℕ)) (s : State) → Grafted (do_info args s)
unfolding do_info
do_info-grafted args s =
    on-grafted (split_first args) (fail-grafted _ s) (λ p. info_of-grafted (pointwise nat_eq p.0 (codes "exists")) p.1 s)

do_global-grafted : (args : List (List ℕ)) (s : State) → Grafted (do_global args s)
unfolding do_global
do_global-grafted args s = completes Done [] (all_linked args s)

pub do_variable-grafted : (c : VariableCommand) (args : List (List ℕ)) (s : State) → Grafted (do_variable c args s)
do_variable-grafted Set args s = do_set-grafted args s
do_variable-grafted Append args s = do_append-grafted args s
do_variable-grafted ListAppend args s = do_lappend-grafted args s
do_variable-grafted Increase args s = do_incr-grafted args s
do_variable-grafted UnsetCommand args s = do_unset-grafted args s
do_variable-grafted Info args s = do_info-grafted args s
do_variable-grafted Global args s = do_global-grafted args s
