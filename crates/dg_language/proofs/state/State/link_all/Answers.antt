use Rattle.std.proofs.Common.{◌∙◌, sym}
use Rattle.dg_language.proofs.StateLemmas.{linked-next, linked-past}
use Rattle.dg_language.proofs.state.State.link_all.Goals as goal

pub loop-name-preserved : goal.loop-name-preserved
loop-name-preserved c =
    rw (c.in_ok-link.ensures, c.as_slice.ensures) (sym (linked-next _ _ _ _ c.loop-name-test.true c.name-item.is) ∙ c.loop-name.invariant)

pub returns : goal.returns
returns c = sym (linked-past _ _ _ c.loop-name-test.false) ∙ c.loop-name.invariant
