use Rattle.std.proofs.Common.{◌≡◌, length, arith, sym, ◌∙◌, ap, subst}
use Rattle.dg_words.specs.Runs.{is_comment}
use Rattle.dg_words.proofs.Runs.{CommentTo, comment_more}
use Rattle.dg_words.proofs.run.comment_run.Goals as goal

pub loop-place-preserved : goal.loop-place-preserved
loop-place-preserved c =
    comment_more c.args.text.now c.args.from c.loop-place.place c.loop-place.invariant c.loop-place-test.true
    (ap is_comment (sym c.class_of.ensures) ∙ sym c.is_comment.ensures ∙ c.if-not-is_comment.false)

pub returns-clause-run : goal.returns-clause-run
returns-clause-run c =
    let place : c.loop-place.place ≡ length c.args.text.now = omega (arith, c.loop-place-test.false, c.requires, c.loop-place.auto.place-end) in
    subst (CommentTo c.args.text.now c.args.from) place c.loop-place.invariant
