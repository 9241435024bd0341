use Rattle.std.proofs.Common.{◌+◌, ◌<◌, ◌≤◌, ◌∙◌, refl, sym, ap, subst, length, arith}
use Rattle.std.proofs.lemmas.Result.{IfOk-weaker}
use Rattle.dg_machine.specs.Meaning.{rest, go}
use Rattle.dg_language.proofs.TouchLemmas.{within-short, within-long}
use Rattle.dg_machine.proofs.MachineLemmas.{Comes-known}
use Rattle.dg_machine.proofs.GatherLemmas.{Comes-along}
use Rattle.dg_machine.proofs.LoopLemmas.{give-done, weight-assigned, weight-given, known-assigned}
use Rattle.dg_machine.proofs.machine.Machine.give_value.Goals as goal

pub returns-then-len-gt-LONGEST_VALUE : goal.returns-then-len-gt-LONGEST_VALUE
returns-then-len-gt-LONGEST_VALUE c =
    let count = c.len.ensures ∙ ap length c.take_first-value.ensures.first in
    rw c.cut.ensures.same (within-long _ _ _ (subst (λ n. 1048576 < n) count c.if-len-gt-LONGEST_VALUE.true) ∙ c.in_ok-closing.ensures.ends, refl)

pub returns-then-at-len : goal.returns-then-at-len
returns-then-at-len c =
    let count = c.len.ensures ∙ ap length c.take_first-value.ensures.first in
    let short = subst (λ n. n ≤ 1048576) count c.if-len-gt-LONGEST_VALUE.false in
    let past : length c.args.rounds.names ≤ c.args.at + 1 = omega (arith, c.len-2.ensures, c.if-at-len.true) in
    let went = rw (c.in_ok-assign.ensures, c.take_first-value.ensures.first, c.take_first-value.ensures.others, c.requires.go) at c.begin_body.ensures in
    rw c.requires.go
    (IfOk-weaker c.begin_body.result _ _
    (λ p h.
    Comes-along p _ _ _ _ _ _ (Comes-known p _ _ _ _ _ h (known-assigned _ _ _)) (within-short _ _ _ short ∙ give-done _ _ _ _ _ past)
    (rw weight-given (omega arith)))
    went)

pub returns : goal.returns
unfolding rest go
returns c =
    let count = c.len.ensures ∙ ap length c.take_first-value.ensures.first in
    rw (c.in_ok-push.ensures, c.in_ok-assign.ensures, c.take_first-value.ensures.first, c.take_first-value.ensures.others, c.requires.go)
    (sym (within-short _ _ _ (subst (λ n. n ≤ 1048576) count c.if-len-gt-LONGEST_VALUE.false)), known-assigned _ _ _, (rw weight-assigned (omega arith)))
