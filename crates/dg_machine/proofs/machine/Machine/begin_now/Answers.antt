use Rattle.std.proofs.Common.{sym, refl, arith}
use Rattle.std.proofs.lemmas.Result.{IfOk-weaker}
use Rattle.dg_machine.proofs.MachineLemmas.{Goes-comes, evaluate-inside}
use Rattle.dg_machine.proofs.GatherLemmas.{Comes-along}
use Rattle.dg_machine.proofs.machine.Machine.begin_now.Goals as goal

pub returns-then-depth-eq0 : goal.returns-then-depth-eq0
returns-then-depth-eq0 c = IfOk-weaker c.begin.result _ _ (λ p h text e. Goes-comes p _ _ _ _ _ _ (h text e) refl (omega arith)) c.begin.ensures

pub returns : goal.returns
returns c =
    IfOk-weaker c.sequence.result _ _
    (λ p h text e. let went = rw (c.new.ensures, e) at h in Comes-along p _ _ _ _ _ _ went (sym (evaluate-inside _ _ _ _ c.if-depth-eq0.false)) (omega arith))
    c.sequence.ensures
