use Rattle.std.proofs.Common.{◌∙◌, ap, subst, sym}
use Rattle.dg_index.specs.Numbers.{HoldsMore}
use Rattle.dg_index.proofs.NumbersLemmas.{is_numbered-fewer}
use Rattle.dg_index.proofs.placing.number.Goals as goal

pub returns-in-Ok-new-clause-held : goal.returns-in-Ok-new-clause-held
returns-in-Ok-new-clause-held c es h = subst (HoldsMore c.hold_all.new.contents es) c.reads.ensures (c.in-Ok.ensures.held es h)

pub returns-clause-numbered : goal.returns-clause-numbered
returns-clause-numbered c es h =
    is_numbered-fewer c.hold_all.new.contents c.release_all.new.contents es c.reads-2.result.now c.release_all.ensures.stays
    (subst (HoldsMore c.hold_all.new.contents es) (c.reads.ensures ∙ ap (λ r. r.reads) (sym c.in-Err.ensures.back) ∙ sym c.reads-2.ensures) (c.in-Ok.ensures.held es h))
    c.release_all.ensures.fewer (c.hold_all.ensures.numbered es h).numbered
