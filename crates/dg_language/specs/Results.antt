-- The commands that record results and messages, by the DejaGnu manual.
use Rattle.std.specs.Prelude.{ℕ, ℤ, pos, negsuc, Bool, true, false, nat_le, Option, Some, None, List, [], ◌∷◌, codes, Err}
use Rattle.dg_expr.specs.Number.{number_of}
use Rattle.dg_results.specs.declared.call.ResultCall.{ResultCall}
use Rattle.dg_results.specs.declared.call.ResultCall.TheVariants as call
use Rattle.dg_language.specs.declared.completion.Change.TheVariants.{Calls}
use Rattle.dg_language.specs.declared.command.ResultCommand.{ResultCommand}
use Rattle.dg_language.specs.declared.command.ResultCommand.TheVariants.{Pass, Fail, Unresolved, Untested, Unsupported, Note, Perror, Warning}
use Rattle.dg_language.specs.Evaluation.{wrong_count}
use Rattle.dg_language.specs.Arguments.{split_first}
use Rattle.dg_language.specs.Completing.{Immediately, does, counted}

abbrev pub name_of : ResultCommand → List ℕ
name_of Pass = codes "pass"
name_of Fail = codes "fail"
name_of Unresolved = codes "unresolved"
name_of Untested = codes "untested"
name_of Unsupported = codes "unsupported"
name_of Note = codes "note"
name_of Perror = codes "perror"
name_of Warning = codes "warning"

-- the commands that may give a count
abbrev pub takes_count : ResultCommand → Bool
takes_count Pass = false
takes_count Fail = false
takes_count Unresolved = false
takes_count Untested = false
takes_count Unsupported = false
takes_count Note = false
takes_count Perror = true
takes_count Warning = true

-- the result call that a command makes, with the count that it gives
abbrev pub call_of : ResultCommand → List ℕ → Option ℕ → ResultCall
call_of Pass m n = call.Pass m
call_of Fail m n = call.Fail m
call_of Unresolved m n = call.Unresolved m
call_of Untested m n = call.Untested m
call_of Unsupported m n = call.Unsupported m
call_of Note m n = call.Note m
call_of Perror m n = call.Perror m n
call_of Warning m n = call.Warning m n

-- a count is a number from 0 to 1,000
abbrev pub count_of : Option ℤ → Option ℕ
count_of None = None
count_of (Some (pos n)) = elim (nat_le n 1000) [ true ↦ Some n | false ↦ None ]
count_of (Some (negsuc n)) = None

abbrev pub recorded : ResultCommand → List ℕ → Option ℕ → Immediately
recorded c m n = does (Calls (call_of c m n))

-- `perror message count` and `warning message count`
abbrev pub with_count : ResultCommand → List ℕ → Option ℕ → Immediately
with_count c m None = Err (codes "bad count")
with_count c m (Some n) = recorded c m (Some n)

abbrev pub result_of : ResultCommand → List ℕ → List (List ℕ) → Immediately
result_of c m [] = recorded c m None
result_of c m (t ∷ []) = elim (takes_count c) [ true ↦ with_count c m (count_of (number_of t)) | false ↦ Err (wrong_count (name_of c)) ]
result_of c m (_ ∷ _ ∷ _) = Err (wrong_count (name_of c))

-- a result command, its message, and for some a count
unfoldable pub do_result : ResultCommand → List (List ℕ) → Immediately
do_result c args = counted (name_of c) (split_first args) (λ p. result_of c p.0 p.1)
