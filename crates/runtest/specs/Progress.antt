-- What a run counts for its progress.
use Rattle.std.specs.Prelude.{Bool, true, false}
use Rattle.dg_results.specs.declared.class.Class.{Class}
use Rattle.dg_results.specs.declared.class.Class.TheVariants.{Error, Warning, Note}

-- whether a line is a result, and no message
abbrev pub is_result : Class → Bool
is_result Error = false
is_result Warning = false
is_result Note = false
is_result _ = true
