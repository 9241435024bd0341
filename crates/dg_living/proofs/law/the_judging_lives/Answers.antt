use Rattle.dg_living.proofs.Judging.{judging-lives}
use Rattle.dg_living.proofs.law.the_judging_lives.Goals as goal

pub returns : goal.returns
returns c = judging-lives
