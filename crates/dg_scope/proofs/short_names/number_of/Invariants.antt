use Rattle.std.proofs.Common.{◌≡◌, take}
use Rattle.dg_scope.specs.Table.{name_of}
use Rattle.dg_scope.proofs.short_names.number_of.Given as goal

abbrev pub invariant-loop-byte : goal.invariant-loop-byte
invariant-loop-byte l = name_of l.number ≡ take l.byte-index l.fn.name
