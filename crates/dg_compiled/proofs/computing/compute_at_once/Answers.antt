use Rattle.dg_compiled.proofs.ComputingLemmas.{between-value, between-fault}
use Rattle.dg_compiled.proofs.computing.compute_at_once.Goals as goal

pub returns-in-Ok : goal.returns-in-Ok
returns-in-Ok c =
    let is = rw c.in-Some.is at c.between.ensures in
    let value = rw (c.in-Ok.is, c.as_slice.ensures, c.as_slice-2.ensures) at c.in_ok-value.ensures in
    λ k. between-value c.args.calculation.now c.args.state.now is.0 is.1.0 _ _ _ is.1.1.0 c.if-calculation-gt0.false is.1.1.1 is.1.1.2 k _ value

pub returns-in-Err : goal.returns-in-Err
returns-in-Err c =
    let is = rw c.in-Some.is at c.between.ensures in
    let fault = rw (c.in-Err.is, c.as_slice.ensures, c.as_slice-2.ensures) at c.in_ok-value.ensures in
    λ k. between-fault c.args.calculation.now c.args.state.now is.0 is.1.0 _ _ _ is.1.1.0 c.if-calculation-gt0.false is.1.1.1 is.1.1.2 k _ fault
