use Rattle.std.proofs.Common.{sym, ◌∙◌, refl, arith}
use Rattle.dg_expr.specs.Number.{number_of}
use Rattle.dg_machine.specs.Acting.{compiled_with}
use Rattle.dg_machine.specs.Meaning.{all_back, go, rest}
use Rattle.dg_machine.proofs.MachineLemmas.{weight-cons}
use Rattle.dg_machine.proofs.LimitLemmas.{limit-known}
use Rattle.dg_machine.proofs.machine.Machine.begin_compiling.Goals as goal

pub returns : goal.returns
unfolding rest go
returns c =
    let text = c.args.text.now in
    let s = c.args.self.now.state in
    let k = all_back c.args.self.now.stack in
    let known = limit-known text (number_of text) s k (λ limit. compiled_with c.args.limiting limit s k) c.in-Some.limit (sym c.in-Some.is ∙ c.limit_of.ensures) in
    rw (c.in_ok-push.ensures, c.requires) (sym known, refl, (rw weight-cons (omega arith)))
