-- The lines of a test, from the list of its result calls.
use Rattle.std.specs.Prelude.{ℕ, ◌+◌, Bool, false, ◌||◌, nat_le, if◌then◌else◌, List, [], ◌∷◌, ◌++◌, length, codes, Option, is_some}
use Rattle.std.specs.List.{list_any, filter_map}
use Rattle.dg_results.specs.declared.class.Class.{Class}
use Rattle.dg_results.specs.declared.class.Class.TheVariants as class
use Rattle.dg_results.specs.declared.verdict.Line.{Line}
use Rattle.dg_results.specs.declared.call.ResultCall.{ResultCall}
use Rattle.dg_results.specs.declared.call.ResultCall.TheVariants.{Pass, Fail, Unresolved, Untested, Unsupported, Perror, Warning, Note, SetupXfail, ClearXfail, SetupKfail, ClearKfail}
use Rattle.dg_results.specs.Calls.{is_result, xfail_choice, kfail_choice, error_given, warning_given}

-- the elements after the last one that passes, or all where none does
abbrev pub after_last : {A : Type 0} → (A → Bool) → List A → List A
after_last p [] = []
after_last p (x ∷ xs) = if list_any p xs then after_last p xs else (if p x then xs else x ∷ xs)

-- the last element, or d where there is none
abbrev pub last_or : {A : Type 0} → A → List A → A
last_or d [] = d
last_or d (x ∷ xs) = last_or x xs

-- the calls after the last result
abbrev pub since_result : List ResultCall → List ResultCall
since_result calls = after_last is_result calls

-- a flag stands if the last setup or clear of its kind since the last result is a setup
abbrev pub stands : (ResultCall → Option Bool) → List ResultCall → Bool
stands choice calls = last_or false (filter_map choice (since_result calls))

-- the last count given, or 0, plus the calls after it, which give none
abbrev pub counted : List (Option ℕ) → ℕ
counted given = last_or 0 (filter_map (λ n. n) given) + length (after_last is_some given)

-- a count since the last result
abbrev pub count_since : (ResultCall → Option (Option ℕ)) → List ResultCall → ℕ
count_since given calls = counted (filter_map given (since_result calls))

-- an error, or three warnings, leave a pass or fail unresolved
abbrev pub is_spoiled : List ResultCall → Bool
is_spoiled calls = nat_le 1 (count_since error_given calls) || nat_le 3 (count_since warning_given calls)

-- the class that a pass or fail writes after these calls: its own, or the one under the xfail or kfail flag
abbrev pub class_after : List ResultCall → Class → Class → Class → Class
class_after calls own under_xfail under_kfail =
    if is_spoiled calls
    then class.Unresolved
    else (if stands kfail_choice calls then under_kfail else (if stands xfail_choice calls then under_xfail else own))

-- a line
abbrev pub line : Class → List ℕ → Line
line c m = record { class = c; message = m }

-- the line that a call writes after these calls, if it writes one
abbrev pub lines_of_call : List ResultCall → ResultCall → List Line
lines_of_call before (Pass m) = line (class_after before class.Pass class.XPass class.KPass) m ∷ []
lines_of_call before (Fail m) = line (class_after before class.Fail class.XFail class.KFail) m ∷ []
lines_of_call before (Unresolved m) = line class.Unresolved m ∷ []
lines_of_call before (Untested m) = line class.Untested m ∷ []
lines_of_call before (Unsupported m) = line class.Unsupported m ∷ []
lines_of_call before (Perror m _) = line class.Error m ∷ []
lines_of_call before (Warning m _) = line class.Warning m ∷ []
lines_of_call before (Note m) = line class.Note m ∷ []
lines_of_call before SetupXfail = []
lines_of_call before ClearXfail = []
lines_of_call before SetupKfail = []
lines_of_call before ClearKfail = []

-- the lines of calls that come after others
abbrev pub lines_after : List ResultCall → List ResultCall → List Line
lines_after before [] = []
lines_after before (c ∷ calls) = lines_of_call before c ++ lines_after (before ++ c ∷ []) calls

-- the lines of a test's calls, in order
unfoldable pub lines_of : List ResultCall → List Line
lines_of calls = lines_after [] calls

-- the closing lines of a test that a Tcl error ends
abbrev pub abort_lines : List ℕ → List ℕ → List Line
abort_lines name message =
    line class.Error (codes "tcl error sourcing " ++ name ++ codes ".")
    ∷ line class.Error message
    ∷ line class.Unresolved (codes "testcase '" ++ name ++ codes "' aborted due to Tcl error")
    ∷ []

-- the closing line of a test that departs from its transcript
abbrev pub depart_lines : List ℕ → List Line
depart_lines name = line class.Unresolved (name ++ codes " departed from its transcript") ∷ []
