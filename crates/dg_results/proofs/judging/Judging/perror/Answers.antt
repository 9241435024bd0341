use Rattle.std.proofs.Common.{◌∙◌, sym, ap}
use Rattle.dg_results.specs.declared.class.Class.TheVariants as class
use Rattle.dg_results.specs.Standing.{Standing}
use Rattle.dg_results.specs.Steps.{with_line, count_after}
use Rattle.dg_results.proofs.StepLemmas.{after_calls-perror}
use Rattle.dg_results.proofs.judging.Judging.perror.Goals as goal

pub returns-clause-ok : goal.returns-clause-ok
returns-clause-ok c =
    let m = c.args.message.now in
    let i = c.self.inside in
    λ calls before.
    ap (λ n. let s : Standing = record { lines = i.lines; xfail = i.marks.xfail; kfail = i.marks.kfail; errors = n; warnings = i.marks.warnings } in s) c.next_count-self-inside.ensures
    ∙ ap (λ (s : Standing). let t : Standing = record s { errors = count_after s.errors c.args.count } in t) (c.self.view_is ∙ c.in_ok-write.ensures.ok ∙ ap (λ s. with_line s class.Error m) before)
    ∙ sym (after_calls-perror calls m c.args.count)
