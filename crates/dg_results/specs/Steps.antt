-- The effect of one call on the state of a judging.
use Rattle.std.specs.Prelude.{ℕ, ◌+◌, false, ◌||◌, nat_le, if◌then◌else◌, List, [], ◌∷◌, ◌++◌, Option, None, Some, min}
use Rattle.dg_results.specs.declared.class.Class.{Class}
use Rattle.dg_results.specs.declared.class.Class.TheVariants as class
use Rattle.dg_results.specs.Lines.{line}
use Rattle.dg_results.specs.Standing.{Standing}

-- the class of a pass or fail where this stands: its own, or the one under the xfail or kfail flag
abbrev pub class_at : Standing → Class → Class → Class → Class
class_at s own under_xfail under_kfail =
    if nat_le 1 s.errors || nat_le 3 s.warnings
    then class.Unresolved
    else (if s.kfail then under_kfail else (if s.xfail then under_xfail else own))

-- one line more, and no flag or count
abbrev pub with_result : Standing → Class → List ℕ → Standing
with_result s c m = record {
  lines = s.lines ++ line c m ∷ [];
  xfail = false;
  kfail = false;
  errors = 0;
  warnings = 0;
}

-- one line more
abbrev pub with_line : Standing → Class → List ℕ → Standing
with_line s c m = record s { lines = s.lines ++ line c m ∷ [] }

-- a count after a call with the number that it gives, or none
abbrev pub count_after : ℕ → Option ℕ → ℕ
count_after n None = min (n + 1) 4294967295
count_after n (Some given) = min given 4294967295
