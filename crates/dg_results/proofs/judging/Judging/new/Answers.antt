use Rattle.std.proofs.Common.{◌∙◌, sym, ap, false}
use Rattle.dg_results.specs.Standing.{Standing}
use Rattle.dg_results.proofs.StepLemmas.{after_calls-none}
use Rattle.dg_results.proofs.judging.Judging.new.Goals as goal

pub returns : goal.returns
returns c =
    ap (λ ls. let s : Standing = record { lines = ls; xfail = false; kfail = false; errors = 0; warnings = 0 } in s) c.new.ensures
    ∙ sym after_calls-none
