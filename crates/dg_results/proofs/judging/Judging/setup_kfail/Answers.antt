use Rattle.std.proofs.Common.{true, ◌∙◌, sym, ap, refl}
use Rattle.dg_results.specs.declared.call.ResultCall.TheVariants.{SetupKfail}
use Rattle.dg_results.specs.Standing.{Standing}
use Rattle.dg_results.proofs.StepLemmas.{after_calls-kfail}
use Rattle.dg_results.proofs.judging.Judging.setup_kfail.Goals as goal

pub returns : goal.returns
returns c =
    λ calls before.
    ap (λ (s : Standing). record s { kfail = true }) (c.self.view_is ∙ before)
    ∙ sym (after_calls-kfail calls SetupKfail true refl refl refl refl refl refl)
