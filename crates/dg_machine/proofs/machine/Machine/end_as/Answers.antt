use Rattle.std.proofs.Common.{◌∙◌, sym, arith}
use Rattle.std.proofs.lemmas.Result.{IfOk-weaker}
use Rattle.dg_machine.specs.Meaning.{rest, weight}
use Rattle.dg_machine.proofs.MachineLemmas.{Goes-along}
use Rattle.dg_machine.proofs.AttemptLemmas.{weight-kept}
use Rattle.dg_machine.proofs.machine.Machine.end_as.Goals as goal

pub returns-in-Value : goal.returns-in-Value
unfolding rest weight
returns-in-Value c f s e =
    let e = rw c.in-Value.is at e in
    rw c.end.ensures (sym (e.0 _), e.1.0, (rw (e.1.1, e.1.2) (omega arith)))

pub returns-in-Fails : goal.returns-in-Fails
returns-in-Fails c =
    IfOk-weaker c.fail.result _ _ (λ p h f s e.
    let e = rw c.in-Fails.is at e in
    let same = weight-kept c.args.self.now.control s c.args.self.now.state c.args.self.now.stack e.1 in
    Goes-along p _ _ _ _ _ _ _ h (e.0 _) e.1.0 (rw (same, c.requires) (omega arith))) c.fail.ensures

pub returns-in_ok-closing-in-TooLong : goal.returns-in_ok-closing-in-TooLong
returns-in_ok-closing-in-TooLong c f s e =
    let e = rw c.in-TooLong.is at e in
    rw c.cut.ensures.same (e.0 _ ∙ c.in_ok-closing-in-TooLong.ensures.ends, e.1.0)
