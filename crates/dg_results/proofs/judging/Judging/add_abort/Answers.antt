use Rattle.dg_results.proofs.StepLemmas.{lines-three}
use Rattle.dg_results.proofs.judging.Judging.add_abort.Goals as goal

pub returns : goal.returns
returns c =
    λ calls before.
    lines-three c.args.self.now _ _ _ calls _ _ _ _ _ _ before c.in_ok-add_around.ensures c.in_ok-write.ensures.ok c.in_ok-add_around-2.ensures
