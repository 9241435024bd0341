use Rattle.std.proofs.Common.{sym}
use Rattle.dg_session.proofs.RequestLemmas.{asked_by-more}
use Rattle.dg_session.proofs.request.read_known.Goals as goal

pub returns-in-Some-rest-3 : goal.returns-in-Some-rest-3
returns-in-Some-rest-3 c =
    let one = rw c.in-Some.is at c.split_field.ensures in
    let two = rw c.in-Some-rest.is at c.split_field-2.ensures in
    let three = rw c.in-Some-rest-2.is at c.split_field-3.ensures in
    let four = rw c.in-Some-rest-3.is at c.split_field-4.ensures in
    sym (asked_by-more c.args.line.now c.in-Some.rest.now c.in-Some-rest.rest.now c.in-Some-rest-2.rest.now c.in-Some-rest-3._more.now _ _ _ _ one two three four)
