use Rattle.std.proofs.Common.{ℕ, length, sym, ap, subst, ◌∙◌, ◌∷◌, arith}
use Rattle.std.proofs.lemmas.Bool.{eqb-true}
use Rattle.std.proofs.lemmas.List.{length-drop, nil_from_length}
use Rattle.dg_glob.specs.Search.{IsAnswer}
use Rattle.dg_glob.proofs.SearchLemmas.{IsSearch, search_begins, search_takes_all, search_jump, search_skip, search_next, search_ends, search_closes, no_answer, answer_along_is, at_star}
use Rattle.dg_glob.proofs.search.+after_star.Goals as goal
use Rattle.dg_glob.proofs.search.+after_star.Goals.{After-fewest-best, in-None, in-Some+in-None-split_first, in-Some+in-Some-split_first+else-run+else-rest-le-LONGEST}

-- what is found at this text
answer_here : (t : ℕ) (c : After-fewest-best t) → IsAnswer c.args.whole c.loop-rest.rest.now c.skip_ahead-later.result.now c.match-pass_items.found
answer_here t c = elim c.match-pass_items.branch [
  | in-None w ↦ subst (IsAnswer c.args.whole c.loop-rest.rest.now c.skip_ahead-later.result.now) (sym w.found-is) (no_answer _ _ _ w.in-None.ensures.none)
  | in-Some+in-None-split_first w ↦ answer_along_is _ _ _ _ _ _ _ _ _ w.in-Some.ensures.some (nil_from_length w.in-Some.run'.pattern.now w.in-None-split_first.ensures.cases) w.left_at_end.ensures w.found-is
  | in-Some+in-Some-split_first+else-run+else-rest-le-LONGEST w ↦ answer_along_is _ _ _ _ _ _ _ _ _ w.in-Some.ensures.some (at_star _ _ _ w.in-Some-split_first.ensures.cases.0 w.in-Some.ensures.stops) w.after_star.ensures w.found-is
]

pub returns-then-is_empty : goal.returns-then-is_empty
returns-then-is_empty t c = search_takes_all _ _ _ _ _ _ c.loop-rest.invariant (nil_from_length c.loop-rest.rest.now (eqb-true _ 0 (sym c.is_empty.ensures ∙ c.if-is_empty.true)))

pub loop-rest-preserved-then-run : goal.loop-rest-preserved-then-run
loop-rest-preserved-then-run t c =
    search_jump _ _ _ _ _ _ (search_skip _ _ _ _ _ _ c.loop-rest.invariant _ c.skip_ahead-later.ensures) _ _ _ _ _ c.in-Some.ensures.some c.in-Some-split_first.ensures.cases.0 c.in-Some.ensures.stops c.if-run.true

pub returns-in_default : goal.returns-in_default
returns-in_default t c =
    subst (IsAnswer c.args.whole (42 ∷ c.args.pattern.now) c.args.text.now) (sym c.fewest-best.ensures) (search_ends _ _ _ _ _ _ (search_skip _ _ _ _ _ _ c.loop-rest.invariant _ c.skip_ahead-later.ensures) _ (nil_from_length c.skip_ahead-later.result.now c.in_default.ensures.cases) (answer_here t (goal.at.returns-in_default t c).After-fewest-best))

pub loop-rest-preserved : goal.loop-rest-preserved
loop-rest-preserved t c =
    subst (IsSearch c.args.whole c.args.pattern.now c.args.text.now c.loop-rest.rest.now c.in-Some-split_first-2.next.now) (sym c.fewest-best.ensures) (search_next _ _ _ _ _ _ (search_skip _ _ _ _ _ _ c.loop-rest.invariant _ c.skip_ahead-later.ensures) _ _ _ c.in-Some-split_first-2.ensures.cases.0 (answer_here t (goal.at.loop-rest-preserved t c).After-fewest-best))

pub returns-then-rest-le-LONGEST : goal.returns-then-rest-le-LONGEST
returns-then-rest-le-LONGEST t c =
    subst (IsAnswer c.args.whole (42 ∷ c.args.pattern.now) c.args.text.now) (sym c.fewest.ensures) (search_closes _ _ _ _ _ _ (search_skip _ _ _ _ _ _ c.loop-rest.invariant _ c.skip_ahead-later.ensures) _ c.after_star_by_rows.ensures)

pub loop-rest-init : goal.loop-rest-init
loop-rest-init t c = search_begins _ _ _

pub loop-rest-smaller-then-run : goal.loop-rest-smaller-then-run
loop-rest-smaller-then-run t c =
    let ahead = ap length c.skip_ahead-later.ensures.left ∙ length-drop c.skip_ahead-later.ensures.skipped c.loop-rest.later.now in
    let run = c.in-Some.ensures.some in
    let left = ap length run.left ∙ length-drop run.passed c.skip_ahead-later.result.now in
    let shorter = run.shorter in
    let behind = ap length c.in-Some-split_first.ensures.cases.0 in
    omega arith

pub loop-rest-smaller : goal.loop-rest-smaller
loop-rest-smaller t c =
    let ahead = ap length c.skip_ahead-later.ensures.left ∙ length-drop c.skip_ahead-later.ensures.skipped c.loop-rest.later.now in
    let behind = ap length c.in-Some-split_first-2.ensures.cases.0 in
    omega arith
