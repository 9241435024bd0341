use Rattle.dg_asking.proofs.VariableLemmas.{concat-more}
use Rattle.dg_asking.proofs.variables.extend_all.Goals as goal

pub loop-value-preserved : goal.loop-value-preserved
loop-value-preserved c =
    rw (c.in_ok-extend.ensures.ok, c.as_slice.ensures, c.loop-value.invariant)
    (concat-more _ _ _ _ c.loop-value-test.true c.value-item.is)
