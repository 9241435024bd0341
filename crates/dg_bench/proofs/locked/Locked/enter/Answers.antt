use Rattle.std.proofs.Common.{◌≡◌, sym, subst}
use Rattle.dg_bench.specs.History.{Steps}
use Rattle.dg_bench.specs.Seen.{Kept}
use Rattle.dg_bench.specs.Refusals.{never}
use Rattle.dg_bench.proofs.Making.{next_legal, kept_finished, enters_finished, refuses_finished}
use Rattle.dg_bench.proofs.locked.Locked.enter.Goals as goal

pub finish-requires-clause-legal : goal.finish-requires-clause-legal
finish-requires-clause-legal g c =
    let same : c.in-Ok.prepared.call ≡ c.args.call = c.in-Ok.ensures.call.0 in
    rw c.in-Ok.ensures.calls
    (next_legal c.args.self.now c.self.inside.core c.self.inside.core c.self.inside.calls.items c.self.inside.stopped c.in-Ok.prepared.call c.args.call c.self.view_is c.requires.running same (subst (λ (k : Kept). Steps k.core c.args.call k.core) (sym c.self.view_is) c.requires.step))

pub invariant_of-self-2 : goal.invariant_of-self-2
invariant_of-self-2 g c =
    kept_finished g.B.Room.names c.args.self.now c.self.inside.core c.self.inside.core c.self.inside.calls.items c.prepare.new.calls.items c.finish.new.calls.items c.finish.new.notes.items c.self.inside.stopped
    c.finish.new.stopped c.in-Ok.prepared.call c.args.call c.finish.result c.self.view_is c.requires.running c.self.invariant.1 c.in-Ok.ensures.calls (c.in-Ok.ensures.call.0) (subst (λ (k : Kept). Steps k.core c.args.call k.core) (sym c.self.view_is) c.requires.step)
    c.finish.ensures.calls c.finish.ensures.refused c.finish.ensures.all

pub returns-clause-ok : goal.returns-clause-ok
returns-clause-ok g c =
    enters_finished c.args.cells.now.limit c.args.self.now c.self.inside.core c.self.inside.core c.self.inside.calls.items c.prepare.new.calls.items c.finish.new.calls.items c.self.inside.stopped
    c.finish.new.stopped c.in-Ok.prepared.call c.args.call c.finish.result c.self.view_is c.requires.running c.requires.room c.in-Ok.ensures.calls (c.in-Ok.ensures.call.0) (subst (λ (k : Kept). Steps k.core c.args.call k.core) (sym c.self.view_is) c.requires.step)
    c.finish.ensures.calls c.finish.ensures.pass c.finish.ensures.receipt c.finish.ensures.running

pub returns-clause-refused : goal.returns-clause-refused
returns-clause-refused g c =
    refuses_finished never c.args.self.now c.self.inside.core c.self.inside.core c.self.inside.calls.items c.prepare.new.calls.items c.finish.new.calls.items c.self.inside.stopped
    c.finish.new.stopped c.finish.result c.self.view_is c.in-Ok.ensures.calls c.finish.ensures.refused
