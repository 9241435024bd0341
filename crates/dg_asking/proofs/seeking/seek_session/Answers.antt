use Rattle.std.proofs.lemmas.Result.{IfOk-weaker}
use Rattle.dg_asking.proofs.SeekingLemmas.{flag-seeks}
use Rattle.dg_asking.proofs.seeking.seek_session.Goals as goal

pub returns-in-Some : goal.returns-in-Some
returns-in-Some c =
    let found = rw c.as_slice.ensures at c.session_named.ensures in
    rw c.in-Some.is (IfOk-weaker c.session_named.result _ _ (λ r h. flag-seeks _ _ _ r h) found)

pub returns-in-None : goal.returns-in-None
returns-in-None c = rw c.in-None.is c.session_of_spawn_id.ensures
