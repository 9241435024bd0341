use Rattle.std.proofs.Common.{[], ◌∙◌, sym, ap, length, arith}
use Rattle.dg_compiled.proofs.ComputingLemmas.{instructs-computes}
use Rattle.dg_compiled.proofs.ExpressionLemmas.{run-none, run-now, run-passed}
use Rattle.dg_compiled.proofs.computing.compute_in_steps.Goals as goal

pub instructions-preserved-then-calculation-gt0 : goal.instructions-preserved-then-calculation-gt0
instructions-preserved-then-calculation-gt0 c =
    let taken = rw c.in-Some.is at c.in_ok-taken.ensures in
    let count = ap length taken.1.0 in
    let fewer = c.instructions.invariant.1 in
    ((λ k. sym (run-passed _ _ _ _ _ _ _ _ taken.1.0 c.if-calculation-gt0.true) ∙ c.instructions.invariant.0 k), omega (arith, count, fewer))

pub instructions-preserved-then-calculation-gt0-2 : goal.instructions-preserved-then-calculation-gt0-2
instructions-preserved-then-calculation-gt0-2 c =
    let taken = rw c.in-Some.is at c.in_ok-taken.ensures in
    let count = ap length taken.1.0 in
    let fewer = c.instructions.invariant.1 in
    ((λ k. sym (run-passed _ _ _ _ _ _ _ _ taken.1.0 c.if-calculation-gt0.true) ∙ c.instructions.invariant.0 k), omega (arith, count, fewer))

pub instructions-preserved-then-calculation-gt0-3 : goal.instructions-preserved-then-calculation-gt0-3
instructions-preserved-then-calculation-gt0-3 c =
    let taken = rw c.in-Some.is at c.in_ok-taken.ensures in
    let count = ap length taken.1.0 in
    let fewer = c.instructions.invariant.1 in
    ((λ k. sym (run-passed _ _ _ _ _ _ _ _ taken.1.0 c.if-calculation-gt0.true) ∙ c.instructions.invariant.0 k), omega (arith, count, fewer))

pub returns-in-Some-2 : goal.returns-in-Some-2
returns-in-Some-2 c =
    let taken = rw c.in-Some.is at c.in_ok-taken.ensures in
    let done = rw c.in-Some-2.is at (c.in_ok-computed.ensures taken.0 taken.1.1) in
    instructs-computes c.args.state.now c.args.calculation.now c.instructions.calculation c.instruct.new.calculation c.instructions.invariant.0 c.instructions.invariant.1
    taken.0 c.next.new.self taken.1.0 c.if-calculation-gt0.false _ done

pub instructions-smaller : goal.instructions-smaller
instructions-smaller c =
    let taken = rw c.in-Some.is at c.in_ok-taken.ensures in
    let count = ap length taken.1.0 in
    let done = rw c.in_default-2.is at (c.in_ok-computed.ensures taken.0 taken.1.1) in
    let kept = ap length done.1 in
    omega (arith, count, kept)

pub instructions-preserved : goal.instructions-preserved
instructions-preserved c =
    let taken = rw c.in-Some.is at c.in_ok-taken.ensures in
    let count = ap length taken.1.0 in
    let done = rw c.in_default-2.is at (c.in_ok-computed.ensures taken.0 taken.1.1) in
    let kept = ap length done.1 in
    let fewer = c.instructions.invariant.1 in
    ((λ k. sym (done.0 k) ∙ sym (run-now _ _ _ _ _ _ _ _ taken.1.0 c.if-calculation-gt0.false) ∙ c.instructions.invariant.0 k), omega (arith, count, kept, fewer))

pub returns : goal.returns
returns c =
    let none = rw c.in_default.is at c.in_ok-taken.ensures in
    rw c.take_top.ensures.first (λ k. sym (c.instructions.invariant.0 k) ∙ run-none _ _ _ [] _ _ _ none.0)
