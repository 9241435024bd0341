use Rattle.dg_transcript.specs.declared.cursor.Action.TheVariants as action
use Rattle.dg_gate.specs.declared.reply.Reply.TheVariants as reply
use Rattle.dg_pipes.proofs.Places.{if_ok, if_err, joined_at}
use Rattle.dg_pipes.proofs.sessions.Sessions.read.Goals as goal

pub returns-clause-ok : goal.returns-clause-ok
returns-clause-ok g c = if_ok c.read.result _ _ c.read.ensures.ok (λ p so. joined_at c.args.self.now.slots.items c.args.session c.in-Some.place (action.Read c.args.limit) (reply.Piece p) c.index_mut-slot.result.now c.read.new.self c.in-Some.ensures.0 c.in-Some.ensures.1 c.index_mut-slot.ensures.value so.1)

pub returns-clause-err : goal.returns-clause-err
returns-clause-err g c = if_err c.read.result _ _ c.read.ensures.err (λ code so. joined_at c.args.self.now.slots.items c.args.session c.in-Some.place (action.Read c.args.limit) (reply.Failed code) c.index_mut-slot.result.now c.read.new.self c.in-Some.ensures.0 c.in-Some.ensures.1 c.index_mut-slot.ensures.value so)
