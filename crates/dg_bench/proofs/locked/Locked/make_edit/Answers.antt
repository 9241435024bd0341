use Rattle.std.proofs.Common.{◌≡◌, ◌∙◌}
use Rattle.std.specs.Prelude.{Err}
use Rattle.dg_core.specs.Core.{edited_core}
use Rattle.dg_bench.specs.declared.call.Call.TheVariants.{Edit as edited}
use Rattle.dg_bench.proofs.Making.{next_legal, kept_finished, enters_finished, refuses_finished}
use Rattle.dg_bench.proofs.locked.Locked.make_edit.Goals as goal

pub finish-requires-clause-legal : goal.finish-requires-clause-legal
finish-requires-clause-legal g c =
    let same : c.in-Ok-prepare.prepared.call ≡ edited c.args.edit = c.in-Ok-prepare.ensures.call.0 ∙ c.in-Ok.ensures in
    rw c.in-Ok-prepare.ensures.calls
    (next_legal c.args.self.now c.self.inside.core c.edit.new.self c.self.inside.calls.items c.self.inside.stopped c.in-Ok-prepare.prepared.call (edited c.args.edit) c.self.view_is c.requires.running same c.in-Ok-edit.ensures.ok)

pub invariant_of-self-in-Ok-edit : goal.invariant_of-self-in-Ok-edit
invariant_of-self-in-Ok-edit g c =
    kept_finished g.B.Room.names c.args.self.now c.self.inside.core c.edit.new.self c.self.inside.calls.items c.prepare.new.calls.items c.finish.new.calls.items c.finish.new.notes.items c.self.inside.stopped
    c.finish.new.stopped c.in-Ok-prepare.prepared.call (edited c.args.edit) c.finish.result c.self.view_is c.requires.running c.self.invariant.1 c.in-Ok-prepare.ensures.calls (c.in-Ok-prepare.ensures.call.0 ∙ c.in-Ok.ensures) c.in-Ok-edit.ensures.ok
    c.finish.ensures.calls c.finish.ensures.refused c.finish.ensures.all

pub returns-in-Ok-edit-clause-ok : goal.returns-in-Ok-edit-clause-ok
returns-in-Ok-edit-clause-ok g c =
    enters_finished c.args.cells.now.limit c.args.self.now c.self.inside.core c.edit.new.self c.self.inside.calls.items c.prepare.new.calls.items c.finish.new.calls.items c.self.inside.stopped
    c.finish.new.stopped c.in-Ok-prepare.prepared.call (edited c.args.edit) c.finish.result c.self.view_is c.requires.running c.requires.room c.in-Ok-prepare.ensures.calls (c.in-Ok-prepare.ensures.call.0 ∙ c.in-Ok.ensures) c.in-Ok-edit.ensures.ok
    c.finish.ensures.calls c.finish.ensures.pass c.finish.ensures.receipt c.finish.ensures.running

pub returns-in-Ok-edit-clause-refused : goal.returns-in-Ok-edit-clause-refused
returns-in-Ok-edit-clause-refused g c =
    refuses_finished (λ core why. edited_core core c.args.edit ≡ Err why) c.args.self.now c.self.inside.core c.edit.new.self c.self.inside.calls.items c.prepare.new.calls.items c.finish.new.calls.items c.self.inside.stopped
    c.finish.new.stopped c.finish.result c.self.view_is c.in-Ok-prepare.ensures.calls c.finish.ensures.refused
