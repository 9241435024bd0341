use Rattle.std.proofs.Common.{◌≡◌, length, arith, sym, ◌∙◌, ap, subst}
use Rattle.dg_words.specs.Runs.{is_text}
use Rattle.dg_words.proofs.Runs.{TextTo, text_more}
use Rattle.dg_words.proofs.run.text_run.Goals as goal

pub loop-place-preserved : goal.loop-place-preserved
loop-place-preserved c =
    text_more c.args.text.now c.args.context c.args.from c.loop-place.place c.loop-place.invariant c.loop-place-test.true
    (ap (is_text c.args.context) (sym c.class_of.ensures) ∙ sym c.is_text.ensures ∙ c.if-not-is_text.false)

pub returns-clause-run : goal.returns-clause-run
returns-clause-run c =
    let place : c.loop-place.place ≡ length c.args.text.now = omega (arith, c.loop-place-test.false, c.requires, c.loop-place.auto.place-end) in
    subst (TextTo c.args.text.now c.args.context c.args.from) place c.loop-place.invariant
