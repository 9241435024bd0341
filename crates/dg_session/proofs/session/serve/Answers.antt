use Rattle.std.proofs.Common.{rules, arith, ◌≡◌, ◌<◌, ◌≤◌, ◌-◌, length}
use Rattle.dg_session.proofs.SessionLemmas.{begins, flushed, goes_on, stops, ends, front_so_far, front_and_part, nothing_written, past, at_end, at_err}
use Rattle.dg_session.proofs.session.serve.Goals as goal

pub loop-is_done-init : goal.loop-is_done-init
loop-is_done-init g c = begins _ _ _ _

pub returns-in_err-first_line-clause-fault : goal.returns-in_err-first_line-clause-fault
returns-in_err-first_line-clause-fault g c = at_err _ _ (nothing_written _ _ _ c.args.limit)

pub returns-in_err-has_more-clause-fault : goal.returns-in_err-has_more-clause-fault
returns-in_err-has_more-clause-fault g c = at_err _ _ (front_so_far _ _ _ _ _ _ _ _ _ (flushed _ _ _ _ _ _ _ _ _ _ c.loop-is_done.invariant c.read_line.ensures.kept))

pub returns-in_err-has_more-clause-too_long : goal.returns-in_err-has_more-clause-too_long
returns-in_err-has_more-clause-too_long g c e = past _ _ _ _ _ _ _ _ _ (flushed _ _ _ _ _ _ _ _ _ _ c.loop-is_done.invariant c.read_line.ensures.kept) (c.read_line.ensures.too_long (search rules))

pub loop-is_done-preserved-then-is_empty : goal.loop-is_done-preserved-then-is_empty
loop-is_done-preserved-then-is_empty g c =
    let none : length c.read_line.new.line.items ≡ 0 = search (rules, arith) in
    stops _ _ _ _ _ _ _ _ _ _ _ (flushed _ _ _ _ _ _ _ _ _ _ c.loop-is_done.invariant c.read_line.ensures.kept) c.in_ok-has_more.ensures.bytes c.in_ok-has_more.ensures.rest none

pub loop-is_done-preserved : goal.loop-is_done-preserved
loop-is_done-preserved g c =
    let some : 0 < length c.read_line.new.line.items = search (rules, arith) in
    let fits : length c.read_line.new.line.items ≤ c.loop-is_done.left = search (rules, arith) in
    let next : c.loop-is_done.left - c.len-left.result ≡ c.loop-is_done.left - length c.read_line.new.line.items = search (rules, arith) in
    let answered = rw c.as_slice.ensures.value at c.in_ok-answer_line.ensures.ok in
    goes_on _ _ _ _ _ _ _ _ _ _ _ _ _ _ (flushed _ _ _ _ _ _ _ _ _ _ c.loop-is_done.invariant c.read_line.ensures.kept) c.in_ok-has_more.ensures.bytes c.in_ok-has_more.ensures.rest answered some fits next (search rules)

pub returns-in_err-answer_line-clause-fault : goal.returns-in_err-answer_line-clause-fault
returns-in_err-answer_line-clause-fault g c =
    let some : 0 < length c.read_line.new.line.items = search (rules, arith) in
    let answered = rw c.as_slice.ensures.value at c.in_err-answer_line.ensures.fault in
    at_err _ _ (front_and_part _ _ _ _ _ _ _ _ _ _ _ (flushed _ _ _ _ _ _ _ _ _ _ c.loop-is_done.invariant c.read_line.ensures.kept) c.in_ok-has_more.ensures.bytes answered some)

pub returns-clause-ok : goal.returns-clause-ok
returns-clause-ok g c = ends _ _ _ _ _ _ _ _ _ c.loop-is_done.invariant (search rules)

pub returns-clause-read : goal.returns-clause-read
returns-clause-read g c = at_end _ _ _ _ _ _ _ _ _ c.loop-is_done.invariant (search rules)
