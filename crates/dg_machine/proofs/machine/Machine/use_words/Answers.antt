use Rattle.std.proofs.Common.{refl, arith}
use Rattle.dg_machine.specs.Meaning.{go, rest, budget}
use Rattle.dg_machine.proofs.MachineLemmas.{weight-cons}
use Rattle.dg_machine.proofs.machine.Machine.use_words.Goals as goal

pub returns-in_ok-push-in-Expect : goal.returns-in_ok-push-in-Expect
unfolding rest go budget
returns-in_ok-push-in-Expect c =
    rw (c.in_ok-push-in-Expect.ensures, c.in-Expect.is, c.requires)
    (refl, refl, (rw weight-cons (omega arith)))
