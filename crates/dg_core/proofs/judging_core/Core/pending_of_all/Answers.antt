use Rattle.std.proofs.Common.{◌∙◌, ◌<◌, length, get_or, ap, subst}
use Rattle.dg_core.proofs.LineupLemmas.{pending-is}
use Rattle.dg_core.proofs.PlaceLemmas.{place-at}
use Rattle.dg_core.proofs.Settling.{unheld-more}
use Rattle.dg_core.proofs.judging_core.Core.pending_of_all.Goals as goal

pub add_unheld-requires : goal.add_unheld-requires
add_unheld-requires c =
    let i = c.loop-at.at in
    let t = c.index-tests-at.result in
    let l = c.args.lineup.now in
    place-at c.args.self.now.shelf l.tests l.places i t c.requires.places (subst (λ ts. i < length ts) c.tests-tests.ensures c.loop-at-test.true)
    (c.index-tests-at.is ∙ ap (λ ts. get_or ts i t) c.tests-tests.ensures)

pub loop-at-preserved : goal.loop-at-preserved
loop-at-preserved c =
    c.in_ok-add_unheld.ensures ∙ unheld-more c.args.self.now _ _ _ _ c.loop-at-test.true c.index-tests-at.is c.loop-at.invariant

pub returns : goal.returns
returns c =
    pending-is c.args.self.now c.tests-tests.result.now c.args.lineup.now.tests c.loop-at.at c.loop-at.pending c.loop-at.invariant c.loop-at-test.false
    c.tests-tests.ensures c.requires.tests
