use Rattle.std.proofs.Common.{◌≡◌, sym, ◌∙◌, refl, arith}
use Rattle.std.specs.Prelude.{None}
use Rattle.dg_sessions.specs.Views.{session_at}
use Rattle.dg_sessions.specs.Steps.{changed, limited}
use Rattle.dg_language.specs.State.{State, with_sessions}
use Rattle.dg_asking.proofs.SeekingLemmas.{kept-in-range, session-set, changed-none, used-changed}
use Rattle.dg_asking.proofs.limits.session_limit.Goals as goal
use Rattle.dg_asking.proofs.limits.session_limit.Goals.{then-is_some, else-is_some}

pub set_session_limit-requires-clause-some : goal.set_session_limit-requires-clause-some
set_session_limit-requires-clause-some c = (kept-in-range _ _ (sym c.in-Some-kept_limit.ensures)).0

pub set_session_limit-requires-clause-most : goal.set_session_limit-requires-clause-most
set_session_limit-requires-clause-most c = (kept-in-range _ _ (sym c.in-Some-kept_limit.ensures)).1

pub returns : goal.returns
unfolding with_sessions
returns c =
    let kept = rw c.as_slice.ensures at (sym c.in-Some-kept_limit.ensures) in
    let old : State = c.args.state.now in
    let made : State = with_sessions (changed c.args.number (limited c.in-Some-kept_limit.max) old.sessions) old in
    let state : c.if-is_some.state ≡ made =
    elim c.if-is_some.branch [
      | then-is_some w ↦ w.state-is ∙ w.set_session_limit.ensures
      | else-is_some w ↦
          let none : session_at c.args.number old.sessions ≡ None = grind (arith, c.session-2.ensures, c.is_some.ensures, w.if-is_some.false) in
          w.state-is ∙ sym (changed-none c.args.number (limited c.in-Some-kept_limit.max) old none)
    ] in
    let used = used-changed c.args.number (limited c.in-Some-kept_limit.max) old.sessions in
    rw (state, c.new.ensures, c.in-Some.is) ((λ k. session-set _ _ _ _ k kept), (refl, refl, used))
