use Rattle.std.proofs.Common.{ap, ◌∙◌, codes}
use Rattle.std.proofs.lemmas.Result.{IfOk-weaker}
use Rattle.clap.specs.Simple.{App}
use Rattle.dg_line.specs.Options.{with_option}
use Rattle.dg_line.proofs.options.with_machines.Goals as goal

pub returns : goal.returns
returns c =
    let one = c.in_ok-c.ensures in
    let two = c.in_ok-c-2.ensures ∙ ap (λ (a : App). with_option a (codes "build")) one in
    let three = c.in_ok-c-3.ensures ∙ ap (λ (a : App). with_option a (codes "host")) two in
    IfOk-weaker c.with_option-4.result _ _ (λ a h. h ∙ ap (λ (a : App). with_option a (codes "target")) three) c.with_option-4.ensures
