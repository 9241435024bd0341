use Rattle.dg_match.proofs.NeedsLemmas.{if_ok}
use Rattle.dg_match.proofs.needs.Needs.of.Goals as goal

pub returns-in-Ok : goal.returns-in-Ok
returns-in-Ok c = if_ok _ _ c.of_tree.result (λ n h. h c.args.source.now _ (rw c.default.ensures at c.in-Ok.ensures.ok)) c.of_tree.ensures
