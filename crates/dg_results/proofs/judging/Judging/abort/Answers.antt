use Rattle.std.proofs.Common.{◌∙◌}
use Rattle.dg_results.proofs.judging.Judging.abort.Goals as goal

pub returns : goal.returns
returns c = λ calls before. c.finish.ensures.held ∙ c.in_ok-add_abort.ensures calls before
