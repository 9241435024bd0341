use Rattle.std.proofs.Common.{arith}
use Rattle.dg_compiled.proofs.GatherLemmas.{gather-none}
use Rattle.dg_compiled.proofs.ComputingLemmas.{nothing}
use Rattle.dg_machine.proofs.ResultLemmas.{Comes-along-ok}
use Rattle.dg_machine.proofs.machine.Machine.go_on.Goals as goal

pub returns-then-len-eq0 : goal.returns-then-len-eq0
returns-then-len-eq0 c =
    Comes-along-ok _ _ _ _ _ _ _ c.use_words.ensures (gather-none _ _ _ _ _ _ _ _ (nothing c.args.making.left (omega (arith, c.len.ensures, c.if-len-eq0.true)))) (omega arith)
