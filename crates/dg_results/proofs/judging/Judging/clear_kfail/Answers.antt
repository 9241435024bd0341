use Rattle.std.proofs.Common.{false, ◌∙◌, sym, ap, refl}
use Rattle.dg_results.specs.declared.call.ResultCall.TheVariants.{ClearKfail}
use Rattle.dg_results.specs.Standing.{Standing}
use Rattle.dg_results.proofs.StepLemmas.{after_calls-kfail}
use Rattle.dg_results.proofs.judging.Judging.clear_kfail.Goals as goal

pub returns : goal.returns
returns c =
    λ calls before.
    ap (λ (s : Standing). record s { kfail = false }) (c.self.view_is ∙ before)
    ∙ sym (after_calls-kfail calls ClearKfail false refl refl refl refl refl refl)
