use Rattle.std.proofs.Common.{◌≡◌, length, arith, sym, ◌∙◌, ap, subst}
use Rattle.dg_lists.specs.ListRuns.{is_element_text}
use Rattle.dg_lists.proofs.ListRuns.{ElementOn, element_more}
use Rattle.dg_lists.proofs.kinds.Context.element_run.Goals as goal

pub loop-place-preserved : goal.loop-place-preserved
loop-place-preserved c =
    element_more c.args.text.now c.args.self c.args.from c.loop-place.place c.loop-place.invariant c.loop-place-test.true
    (ap (is_element_text c.args.self) (sym c.class_of.ensures) ∙ sym c.is_element_text.ensures ∙ c.if-not-is_element_text.false)

pub returns-clause-run : goal.returns-clause-run
returns-clause-run c =
    let place : c.loop-place.place ≡ length c.args.text.now = omega (arith, c.loop-place-test.false, c.requires, c.loop-place.auto.place-end) in
    subst (ElementOn c.args.text.now c.args.self c.args.from) place c.loop-place.invariant
