use Rattle.std.proofs.Common.{◌≡◌, ◌∷◌, ◌++◌, [], length, sym, subst, ap, ◌∙◌}
use Rattle.dg_bench.specs.Seen.{Kept, kept_of, seen_all, called}
use Rattle.std.specs.Prelude.{None}
use Rattle.dg_world.specs.World.{look}
use Rattle.dg_world.specs.declared.question.Answer.TheVariants.{Absent, Reading as read_as}
use Rattle.dg_bench.specs.declared.call.Call.TheVariants.{Ask as asked}
use Rattle.dg_bench.specs.Refusals.{never, RefusesBegun}
use Rattle.dg_bench.proofs.Making.{next_legal, kept_next, kept_stopped, enters, stops}
use Rattle.dg_bench.proofs.locked.Locked.make_ask.Goals as goal

pub finish-requires-clause-legal : goal.finish-requires-clause-legal
finish-requires-clause-legal g c =
    let same : c.tell.new.self.call ≡ asked c.args.question.now (read_as c.in-Ok-read_first.reading) = c.tell.ensures.call c.args.question.now Absent (c.in-Ok-prepare.ensures.call.0 ∙ c.in-Ok.ensures) in
    let none : look c.self.inside.core.world c.args.question.now ≡ None = ap (λ (k : Kept). look k.core.world c.args.question.now) c.self.view_is ∙ c.requires.first in
    rw c.in-Ok-prepare.ensures.calls
    (next_legal c.args.self.now c.self.inside.core c.read_first.new.core c.self.inside.calls.items c.self.inside.stopped c.tell.new.self.call (asked c.args.question.now (read_as c.in-Ok-read_first.reading)) c.self.view_is c.requires.running same (none, c.in-Ok-read_first.ensures.ok))

pub invariant_of-self-in-Ok-finish : goal.invariant_of-self-in-Ok-finish
invariant_of-self-in-Ok-finish g c =
    let same : c.tell.new.self.call ≡ asked c.args.question.now (read_as c.in-Ok-read_first.reading) = c.tell.ensures.call c.args.question.now Absent (c.in-Ok-prepare.ensures.call.0 ∙ c.in-Ok.ensures) in
    let none : look c.self.inside.core.world c.args.question.now ≡ None = ap (λ (k : Kept). look k.core.world c.args.question.now) c.self.view_is ∙ c.requires.first in
    kept_next g.B.Room.names c.args.self.now c.self.inside.core c.read_first.new.core c.self.inside.calls.items c.finish.new.calls.items c.finish.new.notes.items c.self.inside.stopped c.finish.new.stopped c.tell.new.self.call (asked c.args.question.now (read_as c.in-Ok-read_first.reading))
    c.self.view_is c.requires.running same (none, c.in-Ok-read_first.ensures.ok) (c.in-Ok-finish.ensures.calls ∙ ap (λ xs. xs ++ c.tell.new.self.call ∷ []) c.in-Ok-prepare.ensures.calls) c.in-Ok-finish.ensures.all

pub invariant_of-self-in-Err : goal.invariant_of-self-in-Err
invariant_of-self-in-Err g c =
    let back = c.in-Err.ensures.refused in
    kept_stopped g.B.Room.names c.read_first.new.core c.self.inside.calls.items c.finish.new.calls.items c.finish.new.notes.items c.finish.new.stopped c.self.invariant.1 (back.0 ∙ c.in-Ok-prepare.ensures.calls) back.1 c.in-Err.ensures.all

pub returns-in-Ok-finish-clause-ok : goal.returns-in-Ok-finish-clause-ok
returns-in-Ok-finish-clause-ok g c =
    let same : c.tell.new.self.call ≡ asked c.args.question.now (read_as c.in-Ok-read_first.reading) = c.tell.ensures.call c.args.question.now Absent (c.in-Ok-prepare.ensures.call.0 ∙ c.in-Ok.ensures) in
    let none : look c.self.inside.core.world c.args.question.now ≡ None = ap (λ (k : Kept). look k.core.world c.args.question.now) c.self.view_is ∙ c.requires.first in
    enters c.args.cells.now.limit c.args.self.now c.self.inside.core c.read_first.new.core c.self.inside.calls.items c.finish.new.calls.items c.self.inside.stopped c.finish.new.stopped c.in-Ok-finish.pass c.in-Ok-finish.receipt c.tell.new.self.call (asked c.args.question.now (read_as c.in-Ok-read_first.reading))
    c.self.view_is c.requires.running c.requires.room same (none, c.in-Ok-read_first.ensures.ok) (c.in-Ok-finish.ensures.calls ∙ ap (λ xs. xs ++ c.tell.new.self.call ∷ []) c.in-Ok-prepare.ensures.calls)
    (c.in-Ok-finish.ensures.pass ∙ ap (λ xs. seen_all (xs ++ c.tell.new.self.call ∷ [])) c.in-Ok-prepare.ensures.calls) (c.in-Ok-finish.ensures.receipt ∙ ap (λ xs. called (length xs) c.tell.new.self.call) c.in-Ok-prepare.ensures.calls) c.in-Ok-finish.ensures.running

pub returns-in-Err-clause-refused : goal.returns-in-Err-clause-refused
returns-in-Err-clause-refused g c =
    let back = c.in-Err.ensures.refused in
    subst (RefusesBegun never c.args.self.now (kept_of c.read_first.new.core c.finish.new.calls.items c.finish.new.stopped)) (sym back.2)
    (stops never c.args.self.now c.self.inside.core c.read_first.new.core c.self.inside.calls.items c.finish.new.calls.items c.self.inside.stopped c.finish.new.stopped c.self.view_is (back.0 ∙ c.in-Ok-prepare.ensures.calls) back.1)
