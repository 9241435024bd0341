-- The commands on the course of a script: foreach(n), break(n), continue(n), return(n), error(n), catch(n).
use Rattle.std.specs.Prelude.{ℕ, suc, zero, Option, Some, None, List, [], ◌∷◌, length, codes, Result, Ok, Err}
use Rattle.dg_language.specs.declared.code.Code.{Code}
use Rattle.dg_language.specs.declared.code.Code.TheVariants.{Done, Failed, Returned, Broken, Continued, ExpContinued}
use Rattle.dg_language.specs.declared.command.ControlCommand.{ControlCommand}
use Rattle.dg_language.specs.declared.command.ControlCommand.TheVariants.{Foreach, Catch}
use Rattle.dg_language.specs.declared.state.TheConstants.{STEPS}
use Rattle.dg_language.specs.Play.{Play, Ends}
use Rattle.dg_language.specs.State.{State, assigned}
use Rattle.dg_language.specs.Evaluation.{Ending, Then, Nested, out_of_steps, tick, within, fail, loop_after, wrong_count, list_in}
use Rattle.dg_language.specs.Arguments.{on, split_first, three}
use Rattle.dg_language.specs.Variables.{touch}
use Rattle.dg_language.specs.Completing.{Immediately, completes, counted}

abbrev pub digit_of : Code → List ℕ
digit_of Done = codes "0"
digit_of Failed = codes "1"
digit_of Returned = codes "2"
digit_of Broken = codes "3"
digit_of Continued = codes "4"
digit_of ExpContinued = codes "5"

-- what `catch script name` does when the script has ended: its value goes to the name, and its code is the value
unfoldable pub caught : Option (List ℕ) → Then → Then
caught None k c v s = k Done (digit_of c) s
caught (Some n) k c v s = touch n s (λ s'. within (length v) s' (k Done (digit_of c) (assigned n v s')))

abbrev pub catch_name : List (List ℕ) → Option (Option (List ℕ))
catch_name [] = Some None
catch_name (n ∷ []) = Some (Some n)
catch_name (_ ∷ _ ∷ _) = None

-- `catch script` and `catch script name`
unfoldable pub do_catch : Nested → List (List ℕ) → State → Then → Play Ending
do_catch nested args s k =
    on (split_first args) (fail (wrong_count (codes "catch")) s k) (λ p.
    on (catch_name p.1) (fail (wrong_count (codes "catch")) s k) (λ n. nested p.0 s (caught n k)))

-- `error message ?information? ?code?`
abbrev pub message_of : List (List ℕ) → Option (List ℕ)
message_of [] = None
message_of (m ∷ []) = Some m
message_of (m ∷ _ ∷ []) = Some m
message_of (m ∷ _ ∷ _ ∷ []) = Some m
message_of (_ ∷ _ ∷ _ ∷ _ ∷ _) = None

unfoldable pub do_error : List (List ℕ) → Immediately
do_error args = counted (codes "error") (message_of args) Err

-- `return` and `return value`
abbrev pub value_in : List (List ℕ) → Option (List ℕ)
value_in [] = Some []
value_in (v ∷ []) = Some v
value_in (_ ∷ _ ∷ _) = None

unfoldable pub do_return : List (List ℕ) → Immediately
do_return args = counted (codes "return") (value_in args) (completes Returned)

-- `break` and `continue`
unfoldable pub do_leave : Code → List ℕ → List (List ℕ) → Immediately
do_leave code name [] = completes code []
do_leave code name (_ ∷ _) = Err (wrong_count name)

abbrev pub head_or_empty : List (List ℕ) → List ℕ
head_or_empty [] = []
head_or_empty (v ∷ vs) = v

abbrev pub behind_first : List (List ℕ) → List (List ℕ)
behind_first [] = []
behind_first (v ∷ vs) = vs

-- the names of a round get the next values, empty ones where there are no more; then comes what is done with those left
unfoldable pub give_each : List (List ℕ) → List (List ℕ) → State → (List (List ℕ) → State → Play Ending) → Play Ending
give_each [] vs s f = f vs s
give_each (n ∷ ns) vs s f =
    touch n s (λ s'. within (length (head_or_empty vs)) s' (give_each ns (behind_first vs) (assigned n (head_or_empty vs) s') f))

-- The rounds of `foreach names values body`, which are at most this many. Each takes a step.
unfoldable pub each : Nested → ℕ → List (List ℕ) → List ℕ → List (List ℕ) → State → Then → Play Ending
each nested r names body [] s k = k Done [] s
each nested zero names body (v ∷ vs) s k = Ends (out_of_steps s)
each nested (suc r) names body (v ∷ vs) s k =
    tick s (λ s'. give_each names (v ∷ vs) s' (λ left t. nested body t (loop_after (λ u. each nested r names body left u k) k)))

abbrev pub with_values : Nested → List (List ℕ) → List ℕ → Result (List (List ℕ)) (List ℕ) → State → Then → Play Ending
with_values nested names body (Err message) s k = fail message s k
with_values nested names body (Ok values) s k = each nested STEPS names body values s k

abbrev pub with_names : Nested → Result (List (List ℕ)) (List ℕ) → List ℕ → List ℕ → State → Then → Play Ending
with_names nested (Err message) values body s k = fail message s k
with_names nested (Ok []) values body s k = fail (codes "foreach varlist is empty") s k
with_names nested (Ok (n ∷ ns)) values body s k = with_values nested (n ∷ ns) body (list_in values) s k

-- `foreach names values body`
unfoldable pub do_foreach : Nested → List (List ℕ) → State → Then → Play Ending
do_foreach nested args s k =
    on (three args) (fail (wrong_count (codes "foreach")) s k) (λ a. with_names nested (list_in a.0) a.1 a.2 s k)

-- a command that evaluates scripts for each value, or catches their codes
abbrev pub do_control : Nested → ControlCommand → List (List ℕ) → State → Then → Play Ending
do_control nested Foreach args s k = do_foreach nested args s k
do_control nested Catch args s k = do_catch nested args s k
