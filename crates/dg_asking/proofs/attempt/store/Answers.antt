use Rattle.std.proofs.Common.{◌<◌, ◌≤◌, refl, subst}
use Rattle.dg_language.specs.State.{assigned}
use Rattle.dg_language.specs.Variables.{store}
use Rattle.dg_language.proofs.TouchLemmas.{within-short, within-long}
use Rattle.dg_asking.proofs.attempt.store.Goals as goal

pub returns-then-len-gt-LONGEST_VALUE : goal.returns-then-len-gt-LONGEST_VALUE
unfolding store
returns-then-len-gt-LONGEST_VALUE c =
    ((λ k. within-long _ _ _ (subst (λ n. 1048576 < n) c.len.ensures c.if-len-gt-LONGEST_VALUE.true)), (refl, refl, refl))

pub returns : goal.returns
unfolding store assigned
returns c =
    rw (c.in_ok-assign.ensures, c.in_ok-copy.ensures)
    ((λ k. within-short _ _ _ (subst (λ n. n ≤ 1048576) c.len.ensures c.if-len-gt-LONGEST_VALUE.false)), (refl, refl, refl))
