use Rattle.std.proofs.Common.{sym, ◌∙◌}
use Rattle.dg_match.proofs.HitLemmas.{tried_is}
use Rattle.dg_match.proofs.law.hits_are_one.Goals as goal

pub returns : goal.returns
returns c = λ patterns bytes one other a b. (tried_is patterns bytes one a ∙ sym (tried_is patterns bytes other b), tried_is patterns bytes one a)
