use Rattle.std.proofs.Common.{◌∙◌, sym}
use Rattle.dg_forms.proofs.ExpressionLemmas.{spaces-next, spaces-past}
use Rattle.dg_forms.proofs.expression.with_spaces.Goals as goal

pub loop-word-preserved : goal.loop-word-preserved
loop-word-preserved c =
    rw (c.in_ok-extend-2.ensures.ok, c.in_ok-extend.ensures.ok, c.as_slice.ensures) (spaces-next _ _ _ _ c.loop-word-test.true c.word-item.is ∙ c.loop-word.invariant)

pub returns : goal.returns
returns c = sym (spaces-past _ _ _ c.loop-word-test.false) ∙ c.loop-word.invariant
