use Rattle.std.proofs.Common.{refl}
use Rattle.dg_expr.specs.Code.{run}
use Rattle.dg_compiled.proofs.ComputingLemmas.{does-instructs, operand-value}
use Rattle.dg_compiled.proofs.computing.instruct.Goals as goal

pub returns-in_ok-put-in-Value : goal.returns-in_ok-put-in-Value
returns-in_ok-put-in-Value c i e =
    let taken = rw c.in-Value.is at e in
    rw (taken.1.0, c.in_ok-put-in-Value.ensures)
    ((λ k. operand-value c.args.calculation.now c.args.state.now taken.0 c.in-Value.value taken.1.1 k), refl, refl)

pub returns-in-Some : goal.returns-in-Some
returns-in-Some c i e =
    let taken = rw c.in-Operand.is at e in
    rw taken.1.0 (rw c.in-Some.is at (c.in_ok-making-in-Operand.ensures taken.0 taken.1.1))

pub returns-in-None : goal.returns-in-None
returns-in-None c i e =
    let taken = rw c.in-Operand.is at e in
    rw taken.1.0 (rw c.in-None.is at (c.in_ok-making-in-Operand.ensures taken.0 taken.1.1))

pub returns-in_ok-apply_one-in-One : goal.returns-in_ok-apply_one-in-One
returns-in_ok-apply_one-in-One c i e = rw (rw c.in-One.is at e) (does-instructs _ c.args.state.now c.args.calculation.now c.apply_one.new.calculation _ _ c.in_ok-apply_one-in-One.ensures c.failed.ensures)

pub returns-in_ok-apply-in-Two : goal.returns-in_ok-apply-in-Two
returns-in_ok-apply-in-Two c i e = rw (rw c.in-Two.is at e) (does-instructs _ c.args.state.now c.args.calculation.now c.apply.new.calculation _ _ c.in_ok-apply-in-Two.ensures c.failed-in-Two.ensures)

pub returns-in_ok-and-in-And : goal.returns-in_ok-and-in-And
returns-in_ok-and-in-And c i e = rw (rw c.in-And.is at e) (does-instructs _ c.args.state.now c.args.calculation.now c.and.new.calculation _ _ c.in_ok-and-in-And.ensures c.failed-in-And.ensures)

pub returns-in_ok-or-in-Or : goal.returns-in_ok-or-in-Or
returns-in_ok-or-in-Or c i e = rw (rw c.in-Or.is at e) (does-instructs _ c.args.state.now c.args.calculation.now c.or.new.calculation _ _ c.in_ok-or-in-Or.ensures c.failed-in-Or.ensures)

pub returns-in_ok-tell-in-Truth : goal.returns-in_ok-tell-in-Truth
returns-in_ok-tell-in-Truth c i e = rw (rw c.in-Truth.is at e) (does-instructs _ c.args.state.now c.args.calculation.now c.tell.new.calculation _ _ c.in_ok-tell-in-Truth.ensures c.failed-in-Truth.ensures)

pub returns-in_ok-unless-in-Unless : goal.returns-in_ok-unless-in-Unless
returns-in_ok-unless-in-Unless c i e = rw (rw c.in-Unless.is at e) (does-instructs _ c.args.state.now c.args.calculation.now c.unless.new.calculation _ _ c.in_ok-unless-in-Unless.ensures c.failed-in-Unless.ensures)

pub returns-in-Skip : goal.returns-in-Skip
unfolding run
returns-in-Skip c i e = rw (rw c.in-Skip.is at e) ((λ k. refl), refl, refl)
