-- Words that are whole numbers.
use Rattle.std.specs.Prelude.{ℕ, ℤ, pos, negsuc, List, ◌++◌, codes, Option, None, Some, Result, Ok}
use Rattle.dg_expr.specs.Number.{number_of}
use Rattle.dg_cmds.specs.declared.fault.CmdFault.{CmdFault}
use Rattle.dg_cmds.specs.Answers.{failed, quoted}

abbrev pub number_or_error : Option ℤ → List ℕ → Result ℤ CmdFault
number_or_error (Some n) text = Ok n
number_or_error None text = failed (codes "expected integer but got " ++ quoted text)

abbrev pub read_number : List ℕ → Result ℤ CmdFault
read_number text = number_or_error (number_of text) text

abbrev pub at_least_zero : ℤ → ℕ
at_least_zero (pos n) = n
at_least_zero (negsuc n) = 0
