use Rattle.std.proofs.Common.{inl, inr}
use Rattle.dg_expr.proofs.Spelling.{no_tree, only_tree}
use Rattle.dg_expr.proofs.reading.read_expr.Goals as goal

pub returns-in-Ok-clause-only : goal.returns-in-Ok-clause-only
returns-in-Ok-clause-only c other s h = only_tree c.args.text.now c.in-Ok.tree other c.in-Ok.ensures s h

pub returns-in-Err-clause-syntax : goal.returns-in-Err-clause-syntax
returns-in-Err-clause-syntax c = elim c.in-Err.ensures [ inl m ↦ inl m | inr n ↦ inr (n.0, no_tree c.args.text.now n.1) ]
