use Rattle.std.proofs.Common.{◌∙◌, refl, sym, arith}
use Rattle.dg_machine.specs.Meaning.{go, rest, all_back}
use Rattle.dg_machine.proofs.GatherLemmas.{weight-gathering}
use Rattle.dg_compiled.proofs.GatherLemmas.{index-none, index-ends}
use Rattle.dg_machine.proofs.ResultLemmas.{Comes-along-ok}
use Rattle.dg_machine.proofs.machine.Machine.end_index.Goals as goal

pub returns-in_default : goal.returns-in_default
unfolding rest go
returns-in_default c =
    let same = c.in_default.ensures.1 ∙ sym c.in_default.ensures.0 in
    rw (c.in_ok-push.ensures, same, c.requires)
    (sym (index-none _ _ _ _ _ _ _ _ c.in_default.ensures.0), refl, (rw weight-gathering (omega arith)))

pub returns : goal.returns
returns c =
    let m = c.args.making in
    Comes-along-ok _ _ _ _ _ _ _ c.gather_element.ensures
    (index-ends c.args.depth _ m.made m.outer m.text m.left c.args.self.now.state (all_back c.args.self.now.stack) c.in-Some.name c.in-Some.before c.pop.new.self c.in-Some.ensures)
    (omega arith)
