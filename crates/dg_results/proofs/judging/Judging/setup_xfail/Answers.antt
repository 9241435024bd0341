use Rattle.std.proofs.Common.{true, ◌∙◌, sym, ap, refl}
use Rattle.dg_results.specs.declared.call.ResultCall.TheVariants.{SetupXfail}
use Rattle.dg_results.specs.Standing.{Standing}
use Rattle.dg_results.proofs.StepLemmas.{after_calls-xfail}
use Rattle.dg_results.proofs.judging.Judging.setup_xfail.Goals as goal

pub returns : goal.returns
returns c =
    λ calls before.
    ap (λ (s : Standing). record s { xfail = true }) (c.self.view_is ∙ before)
    ∙ sym (after_calls-xfail calls SetupXfail true refl refl refl refl refl refl)
