use Rattle.std.proofs.Common.{◌∙◌, sym, refl, arith}
use Rattle.std.proofs.lemmas.Result.{IfOk-weaker}
use Rattle.dg_machine.proofs.MachineLemmas.{Goes-along, evaluate-none, evaluate-inside}
use Rattle.dg_machine.proofs.machine.Machine.begin.Goals as goal

pub returns-then-depth-eq0 : goal.returns-then-depth-eq0
returns-then-depth-eq0 c text e =
    rw c.cut.ensures.same (evaluate-none _ _ _ _ c.if-depth-eq0.true ∙ c.in_ok-closing.ensures.ends, refl)

pub returns : goal.returns
returns c =
    IfOk-weaker c.begin_inside.result _ _
    (λ p h text e. let went = rw e at h in Goes-along p _ _ _ _ _ _ _ went (sym (evaluate-inside _ _ _ _ c.if-depth-eq0.false)) refl (omega arith))
    c.begin_inside.ensures
