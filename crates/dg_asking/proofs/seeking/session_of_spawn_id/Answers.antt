use Rattle.std.proofs.Common.{sym}
use Rattle.std.proofs.lemmas.Result.{IfOk-weaker}
use Rattle.dg_asking.proofs.SeekingLemmas.{spawn_id-waits, spawn_id-none, spawn_id-seeks}
use Rattle.dg_asking.proofs.seeking.session_of_spawn_id.Goals as goal

pub returns-in-Some : goal.returns-in-Some
returns-in-Some c =
    let waits = rw (c.as_slice.ensures, c.in-Some.is) at c.in_ok-attempt.ensures.precedes in
    let same = rw c.in-Some.is at c.in_ok-attempt.ensures.same in
    spawn_id-waits c.args.fit _ _ _ c.in_ok-name.ensures _ waits same

pub returns-in_default-value_of : goal.returns-in_default-value_of
returns-in_default-value_of c =
    let ready = rw (c.in_default.is, c.as_slice.ensures) at c.in_ok-attempt.ensures.precedes in
    let none = sym (rw c.as_slice-2.ensures at c.in_default-value_of.ensures) in
    spawn_id-none c.args.fit _ _ _ c.in_ok-name.ensures ready _ none c.in_ok-message.ensures

pub returns : goal.returns
returns c =
    let ready = rw (c.in_default.is, c.as_slice.ensures) at c.in_ok-attempt.ensures.precedes in
    let some = sym (rw c.as_slice-2.ensures at c.in-Some-value_of.ensures) in
    let found = rw c.as_slice-3.ensures at c.session_named.ensures in
    IfOk-weaker c.session_named.result _ _ (λ r h. spawn_id-seeks c.args.fit _ _ _ c.in_ok-name.ensures ready _ some r h) found
