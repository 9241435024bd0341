use Rattle.std.proofs.Common.{◌≡◌, ◌∙◌, sym, ap}
use Rattle.dg_results.specs.declared.class.Class.TheVariants as class
use Rattle.dg_results.specs.declared.call.ResultCall.TheVariants.{Note}
use Rattle.dg_results.specs.Standing.{Adds}
use Rattle.dg_results.specs.Steps.{with_line}
use Rattle.dg_results.proofs.StepLemmas.{after_calls-note, on_ok}
use Rattle.dg_results.proofs.judging.Judging.note.Goals as goal

pub returns-clause-ok : goal.returns-clause-ok
returns-clause-ok c =
    let m = c.args.message.now in
    on_ok c.write.result (c.write.new.self ≡ with_line c.args.self.now class.Note m) (Adds c.args.self.now c.write.new.self (Note m))
    (λ done calls before. done ∙ ap (λ s. with_line s class.Note m) before ∙ sym (after_calls-note calls m))
    c.write.ensures.ok
