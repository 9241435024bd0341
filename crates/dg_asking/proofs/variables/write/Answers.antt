use Rattle.dg_language.specs.Variables.{store}
use Rattle.dg_asking.proofs.AttemptLemmas.{used-ends}
use Rattle.dg_asking.proofs.variables.write.Goals as goal

pub returns-in-Some : goal.returns-in-Some
returns-in-Some c = (rw c.in-Some.is at c.in_ok-attempt.ensures.precedes) (λ t k. store c.args.name.now c.args.value.now t k)

pub returns : goal.returns
returns c =
    let ready = rw c.in_default.is at c.in_ok-attempt.ensures.precedes in
    let went = rw c.in_ok-copy.ensures at c.in_ok-outcome.ensures in
    used-ends c.args.name.now (λ t k. store c.args.name.now c.args.value.now t k) _ _ _ _ ready went
