use Rattle.std.proofs.Common.{subst}
use Rattle.std.proofs.lemmas.List.{nil_from_length}
use Rattle.dg_glob.specs.Search.{IsAnswer}
use Rattle.dg_glob.proofs.RunLemmas.{if_none}
use Rattle.dg_glob.proofs.SpanLemmas.{scan_skip, scan_next, scan_ends, scan_stops, scan_finds}
use Rattle.dg_glob.proofs.glob.first_reach.Goals as goal

pub returns-in-Some-clause-some : goal.returns-in-Some-clause-some
returns-in-Some-clause-some c =
    let answer = subst (IsAnswer c.args.whole c.args.body.now c.skip_ahead-rest.result.now) c.in-Some.is c.longest-here.ensures.answer in
    scan_finds _ _ _ _ (scan_skip _ _ _ _ c.loop-left.invariant _ c.skip_ahead-rest.ensures) _ answer

pub returns-then-here-clause-none : goal.returns-then-here-clause-none
returns-then-here-clause-none c =
    scan_stops _ _ _ _ (scan_skip _ _ _ _ c.loop-left.invariant _ c.skip_ahead-rest.ensures) (c.longest-here.ensures.later c.if-here.true c.in_default.is)

pub returns-in_err-later-clause-none : goal.returns-in_err-later-clause-none
returns-in_err-later-clause-none c =
    let answer = subst (IsAnswer c.args.whole c.args.body.now c.skip_ahead-rest.result.now) c.in_default.is c.longest-here.ensures.answer in
    if_none _ _ (scan_ends _ _ _ _ (scan_skip _ _ _ _ c.loop-left.invariant _ c.skip_ahead-rest.ensures) (nil_from_length c.skip_ahead-rest.result.now c.in_err-later.ensures.cases) answer)

pub loop-left-preserved : goal.loop-left-preserved
loop-left-preserved c =
    let answer = subst (IsAnswer c.args.whole c.args.body.now c.skip_ahead-rest.result.now) c.in_default.is c.longest-here.ensures.answer in
    scan_next _ _ _ _ (scan_skip _ _ _ _ c.loop-left.invariant _ c.skip_ahead-rest.ensures) _ _ c.in_ok-later.ensures.cases.0 answer
