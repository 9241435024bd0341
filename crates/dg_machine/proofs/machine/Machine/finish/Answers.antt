use Rattle.std.proofs.Common.{sym, ap, ◌∙◌, ◌++◌}
use Rattle.dg_results.specs.Lines.{lines_of, abort_lines}
use Rattle.dg_machine.proofs.StepLemmas.{finish-failed, finish-well}
use Rattle.dg_machine.proofs.machine.Machine.finish.Goals as goal

pub returns-in-Failed-clause-ends : goal.returns-in-Failed-clause-ends
returns-in-Failed-clause-ends c =
    let s = c.args.self.now.state in
    let code = sym c.in-Failed.is ∙ ap (λ r. r.0) c.in_ok-code.ensures in
    let value = ap (λ r. r.1) c.in_ok-code.ensures in
    let name = c.as_slice-name.ensures.bytes ∙ c.script.ensures ∙ ap (λ t. t.script) c.test.ensures in
    let lines = c.in_ok-verdict-in-Failed.ensures s.calls c.in_ok-judging.ensures in
    finish-failed c.args.code c.args.value c.in_ok-code.value s _ code value
    (lines ∙ ap (λ w. lines_of s.calls ++ abort_lines c.as_slice-name.result.now w) c.as_slice.ensures ∙ ap (λ n. lines_of s.calls ++ abort_lines n c.in_ok-code.value) name)

pub returns-clause-ends : goal.returns-clause-ends
returns-clause-ends c =
    let s = c.args.self.now.state in
    finish-well c.args.code c.in_ok-code.code c.args.value s _ c.in_default.not-Failed (ap (λ r. r.0) c.in_ok-code.ensures)
    (c.finish.ensures.judged s.calls c.in_ok-judging.ensures)
