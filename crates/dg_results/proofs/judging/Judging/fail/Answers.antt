use Rattle.std.proofs.Common.{◌≡◌, ◌∙◌, sym, ap, refl}
use Rattle.dg_results.specs.declared.class.Class.TheVariants as class
use Rattle.dg_results.specs.declared.call.ResultCall.TheVariants.{Fail}
use Rattle.dg_results.specs.Standing.{Adds, Standing, after_calls}
use Rattle.dg_results.specs.Steps.{with_result, class_at}
use Rattle.dg_results.specs.Lines.{class_after}
use Rattle.dg_results.proofs.StepLemmas.{after_calls-result, class_at-after, on_ok}
use Rattle.dg_results.proofs.judging.Judging.fail.Goals as goal

pub returns-clause-ok : goal.returns-clause-ok
returns-clause-ok c =
    let m = c.args.message.now in
    on_ok c.record.result (c.record.new.self ≡ with_result c.args.self.now c.class_now-class.result m) (Adds c.args.self.now c.record.new.self (Fail m))
    (λ done calls before.
    done
    ∙ ap (λ of. with_result c.args.self.now of m) c.class_now-class.ensures
    ∙ ap (λ (s : Standing). with_result s (class_at s class.Fail class.XFail class.KFail) m) before
    ∙ ap (λ of. with_result (after_calls calls) of m) (class_at-after calls class.Fail class.XFail class.KFail)
    ∙ sym (after_calls-result calls (Fail m) (class_after calls class.Fail class.XFail class.KFail) m refl refl))
    c.record.ensures.ok
