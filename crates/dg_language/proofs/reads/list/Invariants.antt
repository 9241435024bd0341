use Rattle.std.proofs.Common.{◌≡◌, ◌++◌}
use Rattle.dg_language.specs.Reads.{reads_of}
use Rattle.dg_language.proofs.reads.list.Given as goal

abbrev pub invariant-loop-question : goal.invariant-loop-question
invariant-loop-question l = l.reads.items ++ reads_of l.question-iterator ≡ l.fn.reads.items ++ reads_of l.fn.answers.entries
