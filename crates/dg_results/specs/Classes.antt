-- The classes of lines.
use Rattle.std.specs.Prelude.{ℕ, Bool, true, false, List, codes}
use Rattle.dg_results.specs.declared.class.Class.{Class}
use Rattle.dg_results.specs.declared.class.Class.TheVariants.{Pass, Fail, XPass, XFail, KPass, KFail, Unresolved, Untested, Unsupported, Error, Warning, Note}

-- the word before the colon
abbrev pub class_name : Class → List ℕ
class_name Pass = codes "PASS"
class_name Fail = codes "FAIL"
class_name XPass = codes "XPASS"
class_name XFail = codes "XFAIL"
class_name KPass = codes "KPASS"
class_name KFail = codes "KFAIL"
class_name Unresolved = codes "UNRESOLVED"
class_name Untested = codes "UNTESTED"
class_name Unsupported = codes "UNSUPPORTED"
class_name Error = codes "ERROR"
class_name Warning = codes "WARNING"
class_name Note = codes "NOTE"

-- the results that make the status of a run 1
abbrev pub is_unexpected : Class → Bool
is_unexpected Fail = true
is_unexpected XPass = true
is_unexpected KPass = true
is_unexpected Unresolved = true
is_unexpected _ = false
