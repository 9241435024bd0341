use Rattle.std.proofs.Common.{◌≡◌, ◌∙◌, ◌<◌, ◌++◌, Bool, Some, None, append-nil, length, get_or, slice_get, option_to_list, filter, not, ap, sym, subst}
use Rattle.std.proofs.lemmas.Option.{slice_get-get_or, slice_get_past}
use Rattle.std.specs.List.Sorted.{IsStrictlySortedBy}
use Rattle.std.specs.Ordering.{nat_cmp}
use Rattle.dg_world.specs.declared.test_id.TestId.{TestId}
use Rattle.dg_index.specs.Kept.{is_held}
use Rattle.dg_core.proofs.LineupLemmas.{pending-open}
use Rattle.dg_core.proofs.OpeningLemmas.{picked, picked-more}
use Rattle.dg_core.proofs.PlaceLemmas.{place-at}
use Rattle.dg_core.proofs.judging_core.Core.pending_at.Goals as goal

pub add_unheld-requires : goal.add_unheld-requires
add_unheld-requires c =
    let i = c.in-Some.at.now in
    let t = c.in-Some-get.test.now in
    let l = c.args.lineup.now in
    let found = c.in-Some-get.ensures.lookup in
    place-at c.args.self.now.shelf l.tests l.places i t c.requires.lineup.places (subst (λ ts. i < length ts) c.tests-tests.ensures found.3.0)
    (found.1 ∙ ap (λ ts. get_or ts i t) c.tests-tests.ensures)

pub loop-at-preserved-in-Continue-1 : goal.loop-at-preserved-in-Continue-1
loop-at-preserved-in-Continue-1 c =
    let s = c.args.self.now in
    let unheld : TestId → Bool = λ t. not (is_held s.world s.shelf t) in
    let ts = c.tests-tests.result.now in
    let i = c.in-Some.at.now in
    let t = c.in-Some-get.test.now in
    let found = c.in-Some-get.ensures.lookup in
    let stands : slice_get ts i ≡ Some t = slice_get-get_or ts i t found.3.0 ∙ ap Some (sym found.1) in
    picked-more unheld ts c.loop-at.pending c.add_unheld.new.pending _ i c.loop-at.at-iterator c.next.new.self c.in-Some.ensures.steps
    (c.in_ok-add_unheld.ensures ∙ ap (λ o. c.loop-at.pending ++ filter unheld (option_to_list o)) (sym stands)) c.loop-at.invariant

pub loop-at-preserved : goal.loop-at-preserved
loop-at-preserved c =
    let s = c.args.self.now in
    let unheld : TestId → Bool = λ t. not (is_held s.world s.shelf t) in
    let ts = c.tests-tests.result.now in
    let i = c.in-Some.at.now in
    let l = c.loop-at.pending in
    let past : slice_get ts i ≡ None = slice_get_past ts i c.in_default.ensures.lookup.3 in
    picked-more unheld ts l l _ i c.loop-at.at-iterator c.next.new.self c.in-Some.ensures.steps
    (sym (append-nil l) ∙ ap (λ o. l ++ filter unheld (option_to_list o)) (sym past)) c.loop-at.invariant

pub returns : goal.returns
returns c =
    let s = c.args.self.now in
    let unheld : TestId → Bool = λ t. not (is_held s.world s.shelf t) in
    let ts = c.tests-tests.result.now in
    let l = c.loop-at.pending in
    pending-open s c.args.openings.now c.args.lineup.now.tests ts l
    (subst (λ o. IsStrictlySortedBy nat_cmp o.keys) c.opened-at-items.ensures c.into_iter-at-iterator.ensures.into_iter_gives.4) c.requires.elsewhere
    (sym (append-nil l) ∙ ap (λ left. l ++ picked unheld ts left) (sym c.in-None.ensures.steps.0) ∙ c.loop-at.invariant) c.tests-tests.ensures c.requires.lineup.tests
