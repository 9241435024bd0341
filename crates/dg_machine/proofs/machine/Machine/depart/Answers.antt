use Rattle.std.proofs.Common.{ap, sym, ◌∙◌, ◌++◌}
use Rattle.dg_results.specs.Lines.{lines_of, depart_lines}
use Rattle.dg_machine.proofs.ActingLemmas.{departs-with}
use Rattle.dg_machine.specs.Meaning.{ends_with}
use Rattle.dg_machine.proofs.machine.Machine.depart.Goals as goal

pub returns-clause-ends : goal.returns-clause-ends
returns-clause-ends c =
    let s = c.args.self.now.state in
    let name = c.as_slice-name.ensures.bytes ∙ c.script.ensures ∙ ap (λ t. t.script) c.test.ensures in
    let lines = c.in_ok-verdict.ensures s.calls c.in_ok-judging.ensures in
    (departs-with s _ (lines ∙ ap (λ n. lines_of s.calls ++ depart_lines n) name))
    ∙ ap (λ k. ends_with k s) (sym c.in_ok-closing.ensures)
