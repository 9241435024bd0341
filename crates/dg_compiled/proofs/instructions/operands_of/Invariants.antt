use Rattle.std.proofs.Common.{◌≡◌, map, take}
use Rattle.dg_compiled.specs.Steps.{operand_in}
use Rattle.dg_compiled.proofs.instructions.operands_of.Given as goal

abbrev pub invariant-loop-instruction : goal.invariant-loop-instruction
invariant-loop-instruction l = l.all ≡ map operand_in (take l.instruction-index l.code)
