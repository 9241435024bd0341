use Rattle.std.proofs.Common.{refl, slice_set}
use Rattle.dg_transcript.specs.declared.cursor.Action.TheVariants as action
use Rattle.dg_gate.specs.declared.reply.Reply.TheVariants as reply
use Rattle.dg_pipes.specs.Steps.{PipeStep}
use Rattle.dg_pipes.proofs.Places.{all_ok, all_err, kept_at, fails_by}
use Rattle.dg_pipes.proofs.sessions.Sessions.send.Goals as goal

pub returns-clause-ok : goal.returns-clause-ok
returns-clause-ok c = all_ok c.send.result _ (λ u. kept_at c.args.self.now.slots.items c.args.session c.in-Some.place (action.Send c.args.bytes.now) reply.Sent c.index_mut-slot.result.now c.send.new.self c.in-Some.ensures.0 c.in-Some.ensures.1 c.index_mut-slot.ensures.value c.send.ensures.output refl)

pub returns-clause-err : goal.returns-clause-err
returns-clause-err c = all_err c.send.result _ (λ f. fails_by (λ r. PipeStep c.args.self.now.slots.items c.args.session (action.Send c.args.bytes.now) r (slice_set c.args.self.now.slots.items c.in-Some.place c.send.new.self)) f (λ code. kept_at c.args.self.now.slots.items c.args.session c.in-Some.place (action.Send c.args.bytes.now) (reply.Failed code) c.index_mut-slot.result.now c.send.new.self c.in-Some.ensures.0 c.in-Some.ensures.1 c.index_mut-slot.ensures.value c.send.ensures.output refl))
