use Rattle.std.proofs.Common.{refl, ap}
use Rattle.dg_transcript.specs.declared.cursor.Action.TheVariants as action
use Rattle.dg_gate.specs.declared.reply.Reply.TheVariants as reply
use Rattle.dg_pipes.specs.Steps.{taken_of}
use Rattle.dg_pipes.proofs.Places.{if_ok, if_err, kept_at, joined_at}
use Rattle.dg_pipes.proofs.sessions.Sessions.close.Goals as goal

pub returns-clause-ok : goal.returns-clause-ok
returns-clause-ok c = if_ok c.close.result _ _ c.close.ensures.ok (λ u none. joined_at c.args.self.now.slots.items c.args.session c.in-Some.place action.Close reply.Closed c.index_mut-slot.result.now c.close.new.self c.in-Some.ensures.0 c.in-Some.ensures.1 c.index_mut-slot.ensures.value (ap taken_of none))

pub returns-clause-err : goal.returns-clause-err
returns-clause-err c = if_err c.close.result _ _ c.close.ensures.err (λ code same. kept_at c.args.self.now.slots.items c.args.session c.in-Some.place action.Close (reply.Failed code) c.index_mut-slot.result.now c.close.new.self c.in-Some.ensures.0 c.in-Some.ensures.1 c.index_mut-slot.ensures.value same refl)
