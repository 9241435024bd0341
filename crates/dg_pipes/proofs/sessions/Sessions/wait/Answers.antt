use Rattle.std.proofs.Common.{refl}
use Rattle.dg_transcript.specs.declared.cursor.Action.TheVariants as action
use Rattle.dg_gate.specs.declared.reply.Reply.TheVariants as reply
use Rattle.dg_pipes.proofs.Places.{all_ok, all_err, kept_at}
use Rattle.dg_pipes.proofs.sessions.Sessions.wait.Goals as goal

pub returns-clause-ok : goal.returns-clause-ok
returns-clause-ok c = all_ok c.wait.result _ (λ e. kept_at c.args.self.now.slots.items c.args.session c.in-Some.place action.Wait (reply.Ended e) c.index_mut-slot.result.now c.wait.new.self c.in-Some.ensures.0 c.in-Some.ensures.1 c.index_mut-slot.ensures.value c.wait.ensures.output refl)

pub returns-clause-err : goal.returns-clause-err
returns-clause-err c = all_err c.wait.result _ (λ code. kept_at c.args.self.now.slots.items c.args.session c.in-Some.place action.Wait (reply.Failed code) c.index_mut-slot.result.now c.wait.new.self c.in-Some.ensures.0 c.in-Some.ensures.1 c.index_mut-slot.ensures.value c.wait.ensures.output refl)
