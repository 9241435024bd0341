use Rattle.dg_transcript.proofs.Texts.{one_first_bad, no_first_bad}
use Rattle.dg_transcript.proofs.laws.one_fault.Goals as goal

pub returns-clause-one : goal.returns-clause-one
returns-clause-one c = λ text n m why other a b. one_first_bad text n m why other a b

pub returns-clause-none : goal.returns-clause-none
returns-clause-none c = λ ss n why is bad. no_first_bad ss n why is bad
