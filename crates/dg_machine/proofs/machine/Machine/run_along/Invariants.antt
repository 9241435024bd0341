use Rattle.std.proofs.Common.{length}
use Rattle.dg_language.specs.Play.{reads_in}
use Rattle.dg_machine.specs.Meaning.{rest}
use Rattle.dg_machine.specs.Arriving.{IsTold}
use Rattle.dg_machine.proofs.machine.Machine.run_along.Given as goal

abbrev pub invariant-questions : goal.invariant-questions
invariant-questions g l = IsTold (g.A.Answers.source l.answers) g.A.Answers.holds l.fn.self l.self

abbrev pub decreases-questions : goal.decreases-questions
decreases-questions g l = length (reads_in (g.A.Answers.source l.answers) (rest l.self))
