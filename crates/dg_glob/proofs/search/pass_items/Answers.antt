use Rattle.std.proofs.Common.{sym}
use Rattle.std.proofs.lemmas.List.{nil_from_length}
use Rattle.dg_glob.proofs.ItemLemmas.{after_item_shorter}
use Rattle.dg_glob.proofs.RunLemmas.{if_none, run_goes, run_stops, run_wants, at_item}
use Rattle.dg_glob.proofs.search.pass_items.Goals as goal

pub returns-in_err-byte-clause-none : goal.returns-in_err-byte-clause-none
returns-in_err-byte-clause-none c =
    let at = at_item c.loop-first.pattern.now c.in-Some.field-0-1.now c.in-Some.field-0-0.now c.in-Some.ensures.cases.0 c.if-first-eq42.false in
    if_none _ _ (run_wants _ _ _ _ _ c.loop-first.invariant at (nil_from_length c.loop-first.text.now c.in_err-byte.ensures.cases))

pub returns-in_err-after-clause-none : goal.returns-in_err-after-clause-none
returns-in_err-after-clause-none c =
    let at = at_item c.loop-first.pattern.now c.in-Some.field-0-1.now c.in-Some.field-0-0.now c.in-Some.ensures.cases.0 c.if-first-eq42.false in
    if_none _ _ (run_stops _ _ _ _ _ c.loop-first.invariant at _ _ c.in_ok-byte.ensures.cases.0 (sym c.in_err-after.ensures))

pub loop-first-smaller : goal.loop-first-smaller
loop-first-smaller c = after_item_shorter c.loop-first.pattern.now c.in_ok-after.after.now _ (sym c.in_ok-after.ensures)

pub loop-first-preserved : goal.loop-first-preserved
loop-first-preserved c =
    let at = at_item c.loop-first.pattern.now c.in-Some.field-0-1.now c.in-Some.field-0-0.now c.in-Some.ensures.cases.0 c.if-first-eq42.false in
    run_goes _ _ _ _ _ c.loop-first.invariant at _ _ _ _ c.in_ok-byte.ensures.cases.0 (sym c.in_ok-after.ensures) c.is_steady-steady.ensures
