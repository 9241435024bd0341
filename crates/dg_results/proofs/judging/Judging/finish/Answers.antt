use Rattle.std.proofs.Common.{◌∙◌, ap}
use Rattle.dg_results.specs.Standing.{Standing}
use Rattle.dg_results.proofs.StepLemmas.{lines-after_calls}
use Rattle.dg_results.proofs.judging.Judging.finish.Goals as goal

pub returns-clause-judged : goal.returns-clause-judged
returns-clause-judged c =
    λ calls before.
    c.of.ensures ∙ ap (λ (s : Standing). s.lines) (c.self.view_is ∙ before) ∙ lines-after_calls calls
