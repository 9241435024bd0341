use Rattle.std.proofs.Common.{◌≡◌, ◌-◌, length, refl, ap, arith}
use Rattle.dg_transcript.specs.declared.cursor.Action.TheVariants as action
use Rattle.dg_gate.specs.declared.reply.Reply.TheVariants as reply
use Rattle.dg_pipes.specs.Steps.{taken_of}
use Rattle.dg_pipes.proofs.Places.{pushed}
use Rattle.dg_pipes.proofs.sessions.Sessions.spawn.Goals as goal

pub returns-in-Ok-clause-ok : goal.returns-in-Ok-clause-ok
returns-in-Ok-clause-ok g c =
    let is : c.args.session - 1 ≡ length c.args.self.now.slots.items = omega arith in
    pushed c.args.self.now.slots.items c.reserve.new.self.slots.items c.push.new.self.slots.items c.args.session (action.Spawn c.args.words.now) reply.Started c.in-Ok.slot c.push.ensures c.reserve.ensures.slots is c.in-Ok.ensures.output refl

pub returns-in-Err-Device-clause-err : goal.returns-in-Err-Device-clause-err
returns-in-Err-Device-clause-err g c =
    let is : c.args.session - 1 ≡ length c.args.self.now.slots.items = omega arith in
    pushed c.args.self.now.slots.items c.reserve.new.self.slots.items c.push-in-Err-Device.new.self.slots.items c.args.session (action.Spawn c.args.words.now) (reply.Failed c.in-Err-Device.code) c.unused.result c.push-in-Err-Device.ensures c.reserve.ensures.slots is (ap taken_of c.unused.ensures.output) refl
