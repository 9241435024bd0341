use Rattle.std.proofs.Common.{false, ◌∙◌, sym, ap, refl}
use Rattle.dg_results.specs.declared.call.ResultCall.TheVariants.{ClearXfail}
use Rattle.dg_results.specs.Standing.{Standing}
use Rattle.dg_results.proofs.StepLemmas.{after_calls-xfail}
use Rattle.dg_results.proofs.judging.Judging.clear_xfail.Goals as goal

pub returns : goal.returns
returns c =
    λ calls before.
    ap (λ (s : Standing). record s { xfail = false }) (c.self.view_is ∙ before)
    ∙ sym (after_calls-xfail calls ClearXfail false refl refl refl refl refl refl)
