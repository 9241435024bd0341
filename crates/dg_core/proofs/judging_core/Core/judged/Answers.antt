use Rattle.std.proofs.Common.{◌∙◌, ◌<◌, length, get_or, ap, sym, subst}
use Rattle.std.specs.Prelude.{Some}
use Rattle.dg_core.proofs.PlaceLemmas.{place-at}
use Rattle.dg_core.proofs.Settling.{selected-held, judged-one-more}
use Rattle.dg_core.proofs.judging_core.Core.judged.Goals as goal

pub judged_test-requires-clause-place : goal.judged_test-requires-clause-place
judged_test-requires-clause-place c =
    let i = c.loop-at.at in
    let t = c.index-tests-at.result in
    let l = c.args.lineup.now in
    place-at c.args.self.now.shelf l.tests l.places i t c.requires.lineup.places (subst (λ ts. i < length ts) c.tests-tests.ensures c.loop-at-test.true)
    (c.index-tests-at.is ∙ ap (λ ts. get_or ts i t) c.tests-tests.ensures)

pub judged_test-requires-clause-held : goal.judged_test-requires-clause-held
judged_test-requires-clause-held c =
    let i = c.loop-at.at in
    let t = c.index-tests-at.result in
    let selected_is = c.tests-tests.ensures ∙ c.requires.lineup.tests in
    selected-held c.args.self.now i t c.requires.held (subst (λ ts. i < length ts) selected_is c.loop-at-test.true) (c.index-tests-at.is ∙ ap (λ ts. get_or ts i t) selected_is)

pub loop-at-preserved : goal.loop-at-preserved
loop-at-preserved c =
    judged-one-more c.args.self.now.world _ _ _ _ _ c.loop-at-test.true c.index-tests-at.is c.loop-at.invariant c.judged_test.ensures
    ∙ ap Some (sym c.in_ok-push.ensures.items)
