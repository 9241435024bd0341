use Rattle.std.proofs.Common.{◌∙◌, ◌<◌, ◌≤◌, sym, refl, subst, arith}
use Rattle.dg_machine.specs.Meaning.{rest, weight}
use Rattle.dg_machine.proofs.MachineLemmas.{fail-long, fail-short}
use Rattle.dg_machine.proofs.machine.Machine.fail.Goals as goal

pub returns-then-len-gt-LONGEST_VALUE : goal.returns-then-len-gt-LONGEST_VALUE
returns-then-len-gt-LONGEST_VALUE c =
    rw c.cut.ensures.same (fail-long _ _ _ (subst (λ n. 1048576 < n) c.len.ensures c.if-len-gt-LONGEST_VALUE.true) ∙ c.in_ok-closing.ensures.ends, refl)

pub returns : goal.returns
unfolding rest weight
returns c =
    rw (c.end.ensures, c.requires) (sym (fail-short _ _ _ (subst (λ n. n ≤ 1048576) c.len.ensures c.if-len-gt-LONGEST_VALUE.false)), refl, omega arith)
