use Rattle.std.proofs.Common.{◌≡◌, false, sym, subst}
use Rattle.dg_core.specs.Core.{new_core}
use Rattle.dg_world.specs.World.{look}
use Rattle.dg_world.specs.declared.question.Answer.TheVariants.{Reading as read_as}
use Rattle.std.specs.Prelude.{None}
use Rattle.dg_bench.specs.declared.call.Call.TheVariants.{Ask as asked}
use Rattle.dg_bench.specs.History.{Makes}
use Rattle.dg_bench.specs.Seen.{Kept}
use Rattle.dg_bench.specs.Refusals.{never}
use Rattle.dg_bench.proofs.Making.{entered_later, refused_begun}
use Rattle.dg_bench.proofs.locked.Locked.ask_first.Goals as goal

pub make_ask-requires-clause-running : goal.make_ask-requires-clause-running
make_ask-requires-clause-running g c =
    subst (λ (k : Kept). (k.stopped ≡ false) × Makes new_core k.calls k.core) (sym c.begin.ensures.same) c.in-Ok.ensures.running

pub make_ask-requires-clause-first : goal.make_ask-requires-clause-first
make_ask-requires-clause-first g c = subst (λ (k : Kept). look k.core.world c.args.question.now ≡ None) (sym c.begin.ensures.same) c.requires.first

pub returns-in-Ok-make_ask-clause-ok : goal.returns-in-Ok-make_ask-clause-ok
returns-in-Ok-make_ask-clause-ok g c =
    entered_later c.args.cells.now.limit c.args.self.now c.begin.new.self c.make_ask.new.self c.args.pass c.in-Ok.pass c.in-Ok-make_ask.seen c.in-Ok-make_ask.receipt (asked c.args.question.now (read_as c.in-Ok-make_ask.reading)) c.begin.ensures.same
    c.in-Ok.ensures.seen c.in-Ok-make_ask.ensures.ok

pub returns-in-Err-make_ask-clause-refused : goal.returns-in-Err-make_ask-clause-refused
returns-in-Err-make_ask-clause-refused g c =
    refused_begun never c.args.cells.now.limit c.args.self.now c.begin.new.self c.make_ask.new.self c.args.pass c.in-Ok.pass c.in-Err-make_ask.refusal
    c.begin.ensures.same c.in-Ok.ensures.seen c.in-Ok.ensures.running c.in-Ok.ensures.room c.in-Err-make_ask.ensures.refused
