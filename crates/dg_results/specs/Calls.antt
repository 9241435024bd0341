-- The calls of a test's result commands.
use Rattle.std.specs.Prelude.{ℕ, Bool, true, false, Option, None, Some}
use Rattle.dg_results.specs.declared.call.ResultCall.{ResultCall}
use Rattle.dg_results.specs.declared.call.ResultCall.TheVariants.{Pass, Fail, Unresolved, Untested, Unsupported, Perror, Warning, SetupXfail, ClearXfail, SetupKfail, ClearKfail}

-- the calls that record a result
abbrev pub is_result : ResultCall → Bool
is_result (Pass _) = true
is_result (Fail _) = true
is_result (Unresolved _) = true
is_result (Untested _) = true
is_result (Unsupported _) = true
is_result _ = false

-- whether a call sets the xfail flag or clears it
abbrev pub xfail_choice : ResultCall → Option Bool
xfail_choice SetupXfail = Some true
xfail_choice ClearXfail = Some false
xfail_choice _ = None

-- whether a call sets the kfail flag or clears it
abbrev pub kfail_choice : ResultCall → Option Bool
kfail_choice SetupKfail = Some true
kfail_choice ClearKfail = Some false
kfail_choice _ = None

-- the count that an error call gives, or none
abbrev pub error_given : ResultCall → Option (Option ℕ)
error_given (Perror _ n) = Some n
error_given _ = None

-- the count that a warning call gives, or none
abbrev pub warning_given : ResultCall → Option (Option ℕ)
warning_given (Warning _ n) = Some n
warning_given _ = None
