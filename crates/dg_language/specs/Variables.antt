-- Variables, and the commands on them: set(n), append(n), lappend(n), incr(n), unset(n), info(n), global(n).
use Rattle.std.specs.Prelude.{ℕ, ℤ, ◌+ℤ◌, Bool, true, false, not, ◌&&◌, Option, Some, None, List, [], ◌∷◌, ◌++◌, length, is_some, nat_eq, codes, Result, Ok, Err}
use Rattle.std.specs.Cmp.Lexicographic.{pointwise}
use Rattle.std.specs.List.{concat}
use Rattle.std.specs.FinMap as map
use Rattle.dg_lists.specs.Canonical.{text_of_list}
use Rattle.dg_expr.specs.Number.{number_of, decimal_text}
use Rattle.dg_expr.specs.Operator.{fits}
use Rattle.dg_expr.specs.Truth.{truth_text}
use Rattle.dg_scope.specs.Names.{global_name, has_index}
use Rattle.dg_scope.specs.Scopes.{means_global, value_of}
use Rattle.dg_world.specs.declared.question.Question.TheVariants.{Variable}
use Rattle.dg_world.specs.declared.question.Answer.{Answer}
use Rattle.dg_world.specs.declared.question.Answer.TheVariants.{Value}
use Rattle.dg_language.specs.declared.code.Code.TheVariants.{Done}
use Rattle.dg_language.specs.declared.command.VariableCommand.{VariableCommand}
use Rattle.dg_language.specs.declared.command.VariableCommand.TheVariants.{Set, Append, ListAppend, Increase, Unset as UnsetCommand, Info, Global}
use Rattle.dg_language.specs.Play.{Play}
use Rattle.dg_language.specs.State.{State, began, began_with, assigned, unassigned, linked}
use Rattle.dg_language.specs.Evaluation.{Ending, Then, ask, within, fail, quoted, wrong_count, list_in}
use Rattle.dg_language.specs.Arguments.{on, only, split_first}

-- whether a name is that of a global that has not begun; a name with an index is a variable of its own, which no line sets
abbrev pub is_to_begin : List ℕ → State → Bool
is_to_begin n s =
    means_global s.variables n && (not (has_index (global_name n)) && not (map.contains_key s.begun (global_name n)))

-- the value that a global has of itself
abbrev pub predefined : List ℕ → Option (List ℕ)
predefined g = elim (pointwise nat_eq g (codes "timeout")) [ true ↦ Some (codes "10") | false ↦ None ]

-- the value with which a global begins: the line's, or its own
abbrev pub first_value : List ℕ → Answer → Option (List ℕ)
first_value g (Value v) = Some v
first_value g _ = predefined g

-- a global begins
abbrev pub begin : List ℕ → Option (List ℕ) → State → (State → Play Ending) → Play Ending
begin g None s k = k (began g s)
begin g (Some v) s k = within (length v) s (k (began_with g v s))

-- Before a variable is first read, written, unset or tested: if it is a global, what the line sets it to is asked for.
unfoldable pub touch : List ℕ → State → (State → Play Ending) → Play Ending
touch n s k =
    elim (is_to_begin n s) [
      | true ↦ ask (Variable (global_name n)) s (λ a s'. begin (global_name n) (first_value (global_name n) a) s' k)
      | false ↦ k s
    ]

abbrev pub cannot_read : List ℕ → List ℕ
cannot_read n = codes "can't read " ++ (quoted n ++ codes ": no such variable")

abbrev pub cannot_unset : List ℕ → List ℕ
cannot_unset n = codes "can't unset " ++ (quoted n ++ codes ": no such variable")

abbrev pub given : Option (List ℕ) → List ℕ → State → Then → Play Ending
given (Some v) n s k = k Done v s
given None n s k = fail (cannot_read n) s k

-- the value of a variable
unfoldable pub read_variable : List ℕ → State → Then → Play Ending
read_variable n s k = touch n s (λ s'. given (value_of s'.variables n) n s' k)

-- a variable gets a value, which is the command's too
unfoldable pub store : List ℕ → List ℕ → State → Then → Play Ending
store n v s k = within (length v) s (k Done v (assigned n v s))

abbrev pub or_empty : Option (List ℕ) → List ℕ
or_empty None = []
or_empty (Some v) = v

-- `set name` and `set name value`
abbrev pub set_of : List ℕ → List (List ℕ) → State → Then → Play Ending
set_of n [] s k = read_variable n s k
set_of n (v ∷ []) s k = touch n s (λ s'. store n v s' k)
set_of n (_ ∷ _ ∷ _) s k = fail (wrong_count (codes "set")) s k

unfoldable pub do_set : List (List ℕ) → State → Then → Play Ending
do_set args s k = on (split_first args) (fail (wrong_count (codes "set")) s k) (λ p. set_of p.0 p.1 s k)

-- `append name value..`: an unset name counts as empty
unfoldable pub do_append : List (List ℕ) → State → Then → Play Ending
do_append args s k =
    on (split_first args) (fail (wrong_count (codes "append")) s k) (λ p.
    touch p.0 s (λ s'. store p.0 (or_empty (value_of s'.variables p.0) ++ concat p.1) s' k))

-- `lappend name value..`: without values the text stays as it is
abbrev pub longer_list : List ℕ → List (List ℕ) → List (List ℕ) → List ℕ
longer_list old elements [] = old
longer_list old elements (v ∷ vs) = text_of_list (elements ++ v ∷ vs)

abbrev pub with_appended : List ℕ → List ℕ → List (List ℕ) → Result (List (List ℕ)) (List ℕ) → State → Then → Play Ending
with_appended n old vs (Err message) s k = fail message s k
with_appended n old vs (Ok elements) s k = store n (longer_list old elements vs) s k

unfoldable pub append_elements : List ℕ → List ℕ → List (List ℕ) → State → Then → Play Ending
append_elements n old vs s k = with_appended n old vs (list_in old) s k

unfoldable pub do_lappend : List (List ℕ) → State → Then → Play Ending
do_lappend args s k =
    on (split_first args) (fail (wrong_count (codes "lappend")) s k) (λ p.
    touch p.0 s (λ s'. append_elements p.0 (or_empty (value_of s'.variables p.0)) p.1 s' k))

-- `incr name ?number?`: an unset name counts as 0, and 1 is added where no number is given
abbrev pub addend : List (List ℕ) → Option (List ℕ)
addend [] = Some (codes "1")
addend (by ∷ []) = Some by
addend (_ ∷ _ ∷ _) = None

abbrev pub or_zero : Option (List ℕ) → List ℕ
or_zero None = codes "0"
or_zero (Some v) = v

abbrev pub expected_integer : List ℕ → List ℕ
expected_integer t = codes "expected integer but got " ++ quoted t

-- the number that a text is, or a message
abbrev pub or_expected : List ℕ → Option ℤ → Result ℤ (List ℕ)
or_expected t None = Err (expected_integer t)
or_expected t (Some z) = Ok z

-- the text of a number that 64 bits hold, or a message
abbrev pub text_of_sum : ℤ → Result (List ℕ) (List ℕ)
text_of_sum z = elim (fits z) [ true ↦ Ok (decimal_text z) | false ↦ Err (codes "integer value too large to represent") ]

-- the sum of two numbers; where both are none, the first has the message
abbrev pub sum_of : Result ℤ (List ℕ) → Result ℤ (List ℕ) → Result (List ℕ) (List ℕ)
sum_of (Err message) y = Err message
sum_of (Ok x) (Err message) = Err message
sum_of (Ok x) (Ok y) = text_of_sum (x +ℤ y)

unfoldable pub increased : List ℕ → List ℕ → Result (List ℕ) (List ℕ)
increased old by = sum_of (or_expected old (number_of old)) (or_expected by (number_of by))

abbrev pub with_sum : List ℕ → Result (List ℕ) (List ℕ) → State → Then → Play Ending
with_sum n (Err message) s k = fail message s k
with_sum n (Ok v) s k = store n v s k

unfoldable pub add_number : List ℕ → List ℕ → State → Then → Play Ending
add_number n by s k = with_sum n (increased (or_zero (value_of s.variables n)) by) s k

unfoldable pub do_incr : List (List ℕ) → State → Then → Play Ending
do_incr args s k =
    on (split_first args) (fail (wrong_count (codes "incr")) s k) (λ p.
    on (addend p.1) (fail (wrong_count (codes "incr")) s k) (λ by. touch p.0 s (λ s'. add_number p.0 by s' k)))

-- one of the names of `unset`; what follows is done where it could be unset or none complains
abbrev pub unset_one : Bool → Bool → List ℕ → State → (State → Play Ending) → Then → Play Ending
unset_one complains true n s more k = more (unassigned n s)
unset_one true false n s more k = fail (cannot_unset n) s k
unset_one false false n s more k = more s

-- `unset name..`, up to the first that isn't set
unfoldable pub unset_all : Bool → List (List ℕ) → State → Then → Play Ending
unset_all complains [] s k = k Done [] s
unset_all complains (n ∷ ns) s k =
    touch n s (λ s'. unset_one complains (is_some (value_of s'.variables n)) n s' (λ t. unset_all complains ns t k) k)

-- a first word `-nocomplain` is no name
abbrev pub unset_names : List (List ℕ) → Bool × List (List ℕ)
unset_names [] = (true, [])
unset_names (n ∷ ns) = elim (pointwise nat_eq n (codes "-nocomplain")) [ true ↦ (false, ns) | false ↦ (true, n ∷ ns) ]

unfoldable pub do_unset : List (List ℕ) → State → Then → Play Ending
do_unset args s k = unset_all (unset_names args).0 (unset_names args).1 s k

-- `info exists name`
abbrev pub info_of : Bool → List (List ℕ) → State → Then → Play Ending
info_of false args s k = fail (codes "unknown subcommand") s k
info_of true args s k =
    on (only args) (fail (wrong_count (codes "info")) s k) (λ n.
    touch n s (λ s'. k Done (truth_text (is_some (value_of s'.variables n))) s'))

unfoldable pub do_info : List (List ℕ) → State → Then → Play Ending
do_info args s k =
    on (split_first args) (fail (wrong_count (codes "info")) s k) (λ p. info_of (pointwise nat_eq p.0 (codes "exists")) p.1 s k)

-- `global name..`
abbrev pub all_linked : List (List ℕ) → State → State
all_linked [] s = s
all_linked (n ∷ ns) s = all_linked ns (linked n s)

unfoldable pub do_global : List (List ℕ) → State → Then → Play Ending
do_global args s k = k Done [] (all_linked args s)

-- a command on variables
abbrev pub do_variable : VariableCommand → List (List ℕ) → State → Then → Play Ending
do_variable Set args s k = do_set args s k
do_variable Append args s k = do_append args s k
do_variable ListAppend args s k = do_lappend args s k
do_variable Increase args s k = do_incr args s k
do_variable UnsetCommand args s k = do_unset args s k
do_variable Info args s k = do_info args s k
do_variable Global args s k = do_global args s k
