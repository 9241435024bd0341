use Rattle.std.proofs.Common.{sym, ◌∙◌, ap, length, arith}
use Rattle.dg_compiled.proofs.GatherLemmas.{gather-none, gather-variable, gather-on}
use Rattle.dg_machine.specs.Meaning.{all_back, budget}
use Rattle.dg_machine.proofs.ResultLemmas.{Comes-along-ok}
use Rattle.dg_machine.proofs.machine.Machine.gather.Goals as goal

pub returns-in-None : goal.returns-in-None
returns-in-None c =
    let same = c.in_ok-make_texts.ensures.same c.args.depth (all_back c.args.self.now.stack) in
    let fewer = c.in_ok-make_texts.ensures.fewer in
    let paid = ap budget c.in_ok-make_texts.ensures.purpose in
    Comes-along-ok _ _ _ _ _ _ _ c.use_words.ensures (sym same ∙ gather-none _ _ _ _ _ _ _ _ c.in-None.ensures.0) (omega (arith, fewer, paid))

pub returns-in-Some-Variable : goal.returns-in-Some-Variable
returns-in-Some-Variable c =
    let same = c.in_ok-make_texts.ensures.same c.args.depth (all_back c.args.self.now.stack) in
    let fewer = c.in_ok-make_texts.ensures.fewer in
    let paid = ap budget c.in_ok-make_texts.ensures.purpose in
    let left = rw c.in-Some-Variable.field-0-is at c.in-Some-Variable.ensures in
    let count = ap length left in
    Comes-along-ok _ _ _ _ _ _ _ c.gather_variable.ensures (sym same ∙ gather-variable _ _ _ _ _ _ _ _ _ _ left) (omega (arith, count, fewer, paid))

pub returns-in-Some : goal.returns-in-Some
returns-in-Some c =
    let same = c.in_ok-make_texts.ensures.same c.args.depth (all_back c.args.self.now.stack) in
    let fewer = c.in_ok-make_texts.ensures.fewer in
    let paid = ap budget c.in_ok-make_texts.ensures.purpose in
    let count = ap length c.in-Some.ensures in
    Comes-along-ok _ _ _ _ _ _ _ c.gather_step.ensures (sym same ∙ gather-on _ _ _ _ _ _ _ _ _ _ c.in-Some.ensures) (omega (arith, count, fewer, paid))
