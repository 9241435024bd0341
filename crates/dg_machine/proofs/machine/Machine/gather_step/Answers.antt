use Rattle.std.proofs.Common.{refl, arith}
use Rattle.dg_compiled.proofs.GatherLemmas.{gather-literal, gather-variable, gather-begins, gather-script, gather-word, gather-list}
use Rattle.dg_machine.proofs.ResultLemmas.{Comes-along-ok, Goes-comes-ok}
use Rattle.dg_machine.proofs.machine.Machine.gather_step.Goals as goal

pub returns-in-Literal : goal.returns-in-Literal
returns-in-Literal c =
    rw c.in-Literal.is (Goes-comes-ok _ _ _ _ _ _ _ c.add_value.ensures (gather-literal _ _ _ _ _ _ _ _ _ _ refl) (omega arith))

pub returns-in-Variable : goal.returns-in-Variable
returns-in-Variable c =
    rw c.in-Variable.is (Comes-along-ok _ _ _ _ _ _ _ c.gather_variable.ensures (gather-variable _ _ _ _ _ _ _ _ _ _ refl) (omega arith))

pub returns-in-IndexBegins : goal.returns-in-IndexBegins
returns-in-IndexBegins c =
    rw c.in-IndexBegins.is (Goes-comes-ok _ _ _ _ _ _ _ c.begin_index.ensures (gather-begins _ _ _ _ _ _ _ _ _ _ refl) (omega arith))

pub returns-in-Script : goal.returns-in-Script
returns-in-Script c =
    rw c.in-Script.is (Comes-along-ok _ _ _ _ _ _ _ c.run_script.ensures (gather-script _ _ _ _ _ _ _ _ _ _ refl) (omega arith))

pub returns-in-WordEnds : goal.returns-in-WordEnds
returns-in-WordEnds c =
    rw c.in-WordEnds.is (Goes-comes-ok _ _ _ _ _ _ _ c.end_word.ensures (gather-word _ _ _ _ _ _ _ _ _ refl) (omega arith))

pub returns-in-ListEnds : goal.returns-in-ListEnds
returns-in-ListEnds c =
    rw c.in-ListEnds.is (Goes-comes-ok _ _ _ _ _ _ _ c.end_list.ensures (gather-list _ _ _ _ _ _ _ _ _ refl) (omega arith))
