-- The steps that are kept beside commands and instructions.
use Rattle.std.specs.Prelude.{List, [], map, Option, None, Some}
use Rattle.dg_expr.specs.declared.code.Instruction.{Instruction}
use Rattle.dg_expr.specs.declared.code.Instruction.TheVariants.{Push, ApplyOne, Apply, And, Or, Truth, Unless, Skip}
use Rattle.dg_language.specs.declared.command.Command.{Command}
use Rattle.dg_language.specs.declared.command.Command.TheVariants.{Words, Unreadable}
use Rattle.dg_language.specs.declared.substitution.Substitution.{Substitution}
use Rattle.dg_language.specs.WordSteps.{operand_steps}
use Rattle.dg_language.specs.WordSteps.{substitutions}

-- the steps in which the words of a command are made, if it can be read
abbrev pub steps_in : Command → List Substitution
steps_in (Words ws) = substitutions ws
steps_in (Unreadable fault) = []

-- the steps in which the operand of an instruction is made, if it has one
abbrev pub operand_in : Instruction → List Substitution
operand_in (Push pieces) = operand_steps pieces
operand_in (ApplyOne op) = []
operand_in (Apply op) = []
operand_in (And passed) = []
operand_in (Or passed) = []
operand_in Truth = []
operand_in (Unless passed) = []
operand_in (Skip passed) = []

-- those of each instruction, if there are any
abbrev pub operands_in : Option (List Instruction) → List (List Substitution)
operands_in None = []
operands_in (Some code) = map operand_in code
