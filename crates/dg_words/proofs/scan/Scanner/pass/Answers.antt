use Rattle.std.proofs.Common.{◌∙◌, sym, subst}
use Rattle.dg_words.specs.Runs.{Reaches}
use Rattle.dg_words.proofs.Runs.{braced_to, commented_inside, commented_outside, run_passes}
use Rattle.dg_words.proofs.scan.Scanner.pass.Goals as goal

pub returns-in_ok-put_all-in-Braced : goal.returns-in_ok-put_all-in-Braced
returns-in_ok-put_all-in-Braced c =
    run_passes c.args.text.now c.args.from _ c.args.self.now _ _ _ _ _ _ _ _ c.in-Braced.is c.self.view_is c.in_ok-put_all-in-Braced.ensures (braced_to c.args.text.now c.args.from _ _ _ c.braced_run-run.ensures.onward c.braced_run-run.ensures.within c.braced_run-run.ensures.run c.self.inside.inner c.self.inside.draft)

pub returns-in_ok-put_all-in-In : goal.returns-in_ok-put_all-in-In
returns-in_ok-put_all-in-In c =
    run_passes c.args.text.now c.args.from _ c.args.self.now _ _ _ _ _ _ _ _ c.in-In.is c.self.view_is c.in_ok-put_all-in-In.ensures (c.text_run-end.ensures.run c.self.inside.depth c.self.inside.inner c.self.inside.draft)

pub returns-then-is_empty : goal.returns-then-is_empty
returns-then-is_empty c =
    subst (λ s. Reaches c.args.text.now c.args.from c.args.self.now c.comment_run-end.result s) c.self.view_is
    (run_passes c.args.text.now c.args.from _ c.args.self.now _ _ _ _ _ _ _ _ c.in-Comment.is c.self.view_is (commented_outside c.self.inside.inner _ c.self.inside.draft (sym c.is_empty.ensures ∙ c.if-is_empty.true)) (c.comment_run-end.ensures.run c.self.inside.depth c.self.inside.inner c.self.inside.draft))

pub returns-in_ok-put_all-in-Comment : goal.returns-in_ok-put_all-in-Comment
returns-in_ok-put_all-in-Comment c =
    run_passes c.args.text.now c.args.from _ c.args.self.now _ _ _ _ _ _ _ _ c.in-Comment.is c.self.view_is (c.in_ok-put_all-in-Comment.ensures ∙ commented_inside c.self.inside.inner _ c.self.inside.draft (sym c.is_empty.ensures ∙ c.if-is_empty.false)) (c.comment_run-end.ensures.run c.self.inside.depth c.self.inside.inner c.self.inside.draft)
