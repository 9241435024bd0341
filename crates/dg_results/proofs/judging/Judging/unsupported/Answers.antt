use Rattle.std.proofs.Common.{◌≡◌, ◌∙◌, sym, ap, refl}
use Rattle.dg_results.specs.declared.class.Class.TheVariants as class
use Rattle.dg_results.specs.declared.call.ResultCall.TheVariants.{Unsupported}
use Rattle.dg_results.specs.Standing.{Adds}
use Rattle.dg_results.specs.Steps.{with_result}
use Rattle.dg_results.proofs.StepLemmas.{after_calls-result, on_ok}
use Rattle.dg_results.proofs.judging.Judging.unsupported.Goals as goal

pub returns-clause-ok : goal.returns-clause-ok
returns-clause-ok c =
    let m = c.args.message.now in
    on_ok c.record.result (c.record.new.self ≡ with_result c.args.self.now class.Unsupported m) (Adds c.args.self.now c.record.new.self (Unsupported m))
    (λ done calls before.
    done ∙ ap (λ s. with_result s class.Unsupported m) before
    ∙ sym (after_calls-result calls (Unsupported m) class.Unsupported m refl refl))
    c.record.ensures.ok
