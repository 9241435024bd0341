-- The state of a judging: the lines so far, the flags and the counts.
use Rattle.std.specs.Prelude.{◌≡◌, ℕ, Bool, List, [], ◌∷◌, ◌++◌, min}
use Rattle.dg_results.specs.declared.verdict.Line.{Line}
use Rattle.dg_results.specs.declared.call.ResultCall.{ResultCall}
use Rattle.dg_results.specs.Calls.{xfail_choice, kfail_choice, error_given, warning_given}
use Rattle.dg_results.specs.Lines.{lines_of, stands, count_since}

-- counts are kept up to 4,294,967,295
pub record Standing : Type 0 where
  pub lines : List Line
  pub xfail : Bool
  pub kfail : Bool
  pub errors : ℕ
  pub warnings : ℕ

-- the state after these calls
unfoldable pub after_calls : List ResultCall → Standing
after_calls calls = record {
  lines = lines_of calls;
  xfail = stands xfail_choice calls;
  kfail = stands kfail_choice calls;
  errors = min (count_since error_given calls) 4294967295;
  warnings = min (count_since warning_given calls) 4294967295;
}

-- the state has one call more
abbrev pub Adds : Standing → Standing → ResultCall → Type 0
Adds old new c = (calls : List ResultCall) → old ≡ after_calls calls → new ≡ after_calls (calls ++ c ∷ [])
