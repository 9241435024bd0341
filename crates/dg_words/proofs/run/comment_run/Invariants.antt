use Rattle.dg_words.proofs.Runs.{CommentTo}
use Rattle.dg_words.proofs.run.comment_run.Given as goal

abbrev pub invariant-loop-place : goal.invariant-loop-place
invariant-loop-place l = CommentTo l.text l.from l.place
