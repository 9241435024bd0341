use Rattle.std.proofs.Common.{◌∙◌}
use Rattle.dg_results.proofs.StepLemmas.{lines-with_line}
use Rattle.dg_results.proofs.judging.Judging.depart.Goals as goal

pub returns : goal.returns
returns c = λ calls before. c.finish.ensures.held ∙ lines-with_line c.args.self _ calls _ _ before c.in_ok-add_around.ensures
