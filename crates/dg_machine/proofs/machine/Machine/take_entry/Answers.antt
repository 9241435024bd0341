use Rattle.std.proofs.Common.{◌≡◌, ap, sym, ◌∙◌, refl}
use Rattle.dg_sessions.specs.Steps.{step_of}
use Rattle.dg_language.specs.State.{State, with_sessions}
use Rattle.dg_machine.proofs.ActingLemmas.{perform-answered, perform-passed, perform-late, perform-departs}
use Rattle.dg_machine.proofs.machine.Machine.take_entry.Goals as goal

pub returns-in-Answered : goal.returns-in-Answered
returns-in-Answered c =
    let s = c.args.self.now.state in
    let next = c.requires.told in
    let v = next.0 in
    let e = c.args.entry in
    let a = c.args.action.now in
    let gives : c.in_ok-act.field-0 ≡ (step_of v a e).act = rw next.1 at c.in_ok-act.ensures.gives in
    let kept : c.act.new.action ≡ (step_of v a e).action = rw next.1 at c.in_ok-act.ensures.limit in
    let came = perform-answered c.args.number a s v c.requires.room next.1 e next.2 _ kept _ c.in_ok-act.ensures.next (sym gives ∙ c.in-Answered.is) in
    (came.0, came.1, came.2, refl)

pub returns-in-Wants : goal.returns-in-Wants
returns-in-Wants c =
    let s = c.args.self.now.state in
    let next = c.requires.told in
    let v = next.0 in
    let e = c.args.entry in
    let a = c.args.action.now in
    let gives : c.in_ok-act.field-0 ≡ (step_of v a e).act = rw next.1 at c.in_ok-act.ensures.gives in
    let kept : c.act.new.action ≡ (step_of v a e).action = rw next.1 at c.in_ok-act.ensures.limit in
    let came = perform-passed c.args.number a s v c.requires.room next.1 e next.2 _ kept _ c.in_ok-act.ensures.next _ (sym gives ∙ c.in-Wants.is) in
    (came.0, came.1, came.2, refl)

pub returns-in-TimedOut : goal.returns-in-TimedOut
returns-in-TimedOut c =
    let s = c.args.self.now.state in
    let next = c.requires.told in
    let v = next.0 in
    let e = c.args.entry in
    let a = c.args.action.now in
    let gives : c.in_ok-act.field-0 ≡ (step_of v a e).act = rw next.1 at c.in_ok-act.ensures.gives in
    let kept : c.act.new.action ≡ (step_of v a e).action = rw next.1 at c.in_ok-act.ensures.limit in
    let came = perform-late c.args.number a s v c.requires.room next.1 e next.2 _ kept _ c.in_ok-act.ensures.next (sym gives ∙ c.in-TimedOut.is) in
    (came.0, came.1, refl)

pub returns-in_ok-closing-in-Departed : goal.returns-in_ok-closing-in-Departed
unfolding with_sessions
returns-in_ok-closing-in-Departed c =
    let s = c.args.self.now.state in
    let next = c.requires.told in
    let v = next.0 in
    let e = c.args.entry in
    let a = c.args.action.now in
    let gives : c.in_ok-act.field-0 ≡ (step_of v a e).act = rw next.1 at c.in_ok-act.ensures.gives in
    let kept : c.act.new.action ≡ (step_of v a e).action = rw next.1 at c.in_ok-act.ensures.limit in
    let came = perform-departs c.args.number a s v c.requires.room next.1 e next.2 _ kept _ c.in_ok-act.ensures.next (sym gives ∙ c.in-Departed.is) in
    rw c.depart.ensures.same ((λ told late. came told late ∙ c.in_ok-closing-in-Departed.ensures.ends), ap (λ (x : State). x.known) c.in_ok-act.ensures.next)
