-- Indices of elements: a number, `end`, or `end-N`.
use Rattle.std.specs.Prelude.{ℕ, ◌+◌, ◌-◌, ℤ, pos, negsuc, min, List, [], ◌∷◌, ◌++◌, ◌==◌, ◌&&◌, codes, length, slice_range, Option, None, Some, Result, Ok, if◌then◌else◌}
use Rattle.std.specs.Option.{option_map}
use Rattle.dg_expr.specs.Number.{number_of}
use Rattle.dg_cmds.specs.declared.fault.CmdFault.{CmdFault}
use Rattle.dg_cmds.specs.declared.index.Index.{Index}
use Rattle.dg_cmds.specs.declared.index.Index.TheVariants.{FromStart, FromEnd}
use Rattle.dg_cmds.specs.Answers.{failed, quoted}

-- behind `end`
abbrev pub behind_end : List ℕ → Option Index
behind_end [] = Some (FromEnd (pos 0))
behind_end (d ∷ rest) = if d == 45 then option_map FromEnd (number_of rest) else None

abbrev pub from_end : List ℕ → Option Index
from_end [] = None
from_end (a ∷ []) = None
from_end (a ∷ b ∷ []) = None
from_end (a ∷ b ∷ c ∷ rest) = if a == 101 && b == 110 && c == 100 then behind_end rest else None

abbrev pub or_from_end : Option ℤ → List ℕ → Option Index
or_from_end (Some z) text = Some (FromStart z)
or_from_end None text = from_end text

-- the index that a text is
abbrev pub index_of : List ℕ → Option Index
index_of text = or_from_end (number_of text) text

abbrev pub index_or_error : Option Index → List ℕ → Result Index CmdFault
index_or_error (Some i) text = Ok i
index_or_error None text = failed (codes "bad index " ++ quoted text)

abbrev pub read_index : List ℕ → Result Index CmdFault
read_index text = index_or_error (index_of text) text

-- how many of n elements stand before an index
abbrev pub before : Index → ℕ → ℕ
before (FromStart (pos k)) n = min k n
before (FromStart (negsuc k)) n = 0
before (FromEnd (pos k)) n = n - k - 1
before (FromEnd (negsuc k)) n = n

-- how many of them stand up to an index
abbrev pub through : Index → ℕ → ℕ
through (FromStart (pos k)) n = min (k + 1) n
through (FromStart (negsuc k)) n = 0
through (FromEnd (pos k)) n = n - k
through (FromEnd (negsuc k)) n = n

-- the elements from one index to another, as far as there are any
abbrev pub part_of : {X : Type 0} → Index → Index → List X → List X
part_of i j xs = slice_range xs (before i (length xs)) (through j (length xs))
