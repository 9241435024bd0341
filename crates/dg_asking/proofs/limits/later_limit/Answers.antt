use Rattle.std.proofs.Common.{sym, refl}
use Rattle.dg_language.specs.State.{with_sessions}
use Rattle.dg_asking.proofs.SeekingLemmas.{kept-in-range, later-set}
use Rattle.dg_asking.proofs.limits.later_limit.Goals as goal

pub set_later_limit-requires-clause-some : goal.set_later_limit-requires-clause-some
set_later_limit-requires-clause-some c = (kept-in-range _ _ (sym c.in-Some-kept_limit.ensures)).0

pub set_later_limit-requires-clause-most : goal.set_later_limit-requires-clause-most
set_later_limit-requires-clause-most c = (kept-in-range _ _ (sym c.in-Some-kept_limit.ensures)).1

pub returns : goal.returns
unfolding with_sessions
returns c =
    let kept = rw c.as_slice.ensures at (sym c.in-Some-kept_limit.ensures) in
    rw (c.set_later_limit.ensures, c.new.ensures, c.in-Some.is) ((λ k. later-set _ _ _ k kept), (refl, refl, refl))
