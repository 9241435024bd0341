use Rattle.std.proofs.Common.{arith}
use Rattle.dg_glob.proofs.PartLemmas.{trail_begins}
use Rattle.dg_match.proofs.GlobLemmas.{counted_all, counted_some, left_all, left_some}
use Rattle.dg_match.proofs.search.search_glob.Goals as goal

pub returns-then-whole-clause-known : goal.returns-then-whole-clause-known
returns-then-whole-clause-known c = trail_begins c.args.parts.now c.args.bytes.now

pub returns-then-whole-clause-left : goal.returns-then-whole-clause-left
returns-then-whole-clause-left c = left_all c.args.parts.now c.args.bytes.now c.args.trail.found c.args.trail.passed _ _ _ c.follow_rest-read.ensures.value c.count.ensures c.if-whole.true

pub returns-then-whole-clause-counted : goal.returns-then-whole-clause-counted
returns-then-whole-clause-counted c =
    let all = counted_all c.args.parts.now c.args.bytes.now c.args.trail.found c.args.trail.passed _ _ _ c.follow_rest-read.ensures.value c.count.ensures c.if-whole.true in
    let read = c.follow_rest-read.ensures.read in
    let both = c.saturating_add.ensures in
    omega arith

pub returns-clause-left : goal.returns-clause-left
returns-clause-left c = left_some c.args.parts.now c.args.bytes.now c.args.trail.found c.args.trail.passed _ _ _ c.follow_rest-read.ensures.value c.count.ensures c.if-whole.false

pub returns-clause-counted : goal.returns-clause-counted
returns-clause-counted c =
    let some = counted_some c.args.parts.now c.args.bytes.now c.args.trail.found c.args.trail.passed _ _ _ c.follow_rest-read.ensures.value c.count.ensures c.if-whole.false in
    let read = c.follow_rest-read.ensures.read in
    omega arith
