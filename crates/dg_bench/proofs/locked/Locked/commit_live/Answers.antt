use Rattle.std.proofs.Common.{◌≡◌, false, sym, subst}
use Rattle.std.specs.Prelude.{Err}
use Rattle.dg_core.specs.Core.{new_core, committed_live}
use Rattle.dg_bench.specs.declared.call.Call.TheVariants.{Live as lived}
use Rattle.dg_bench.specs.History.{Makes}
use Rattle.dg_bench.specs.Seen.{Kept}
use Rattle.dg_bench.proofs.Making.{entered_later, refused_begun}
use Rattle.dg_bench.proofs.locked.Locked.commit_live.Goals as goal

pub make_live-requires-clause-running : goal.make_live-requires-clause-running
make_live-requires-clause-running g c =
    subst (λ (k : Kept). (k.stopped ≡ false) × Makes new_core k.calls k.core) (sym c.begin.ensures.same) c.in-Ok.ensures.running

pub returns-in-Ok-make_live-clause-ok : goal.returns-in-Ok-make_live-clause-ok
returns-in-Ok-make_live-clause-ok g c =
    entered_later c.args.cells.now.limit c.args.self.now c.begin.new.self c.make_live.new.self c.args.pass c.in-Ok.pass c.in-Ok-make_live.made.0 c.in-Ok-make_live.made.1 (lived c.args.newest c.args.transcript) c.begin.ensures.same
    c.in-Ok.ensures.seen c.in-Ok-make_live.ensures.ok

pub returns-in-Err-make_live-clause-refused : goal.returns-in-Err-make_live-clause-refused
returns-in-Err-make_live-clause-refused g c =
    refused_begun (λ core why. committed_live core c.args.newest c.args.transcript ≡ Err why) c.args.cells.now.limit c.args.self.now c.begin.new.self c.make_live.new.self c.args.pass c.in-Ok.pass c.in-Err-make_live.refusal
    c.begin.ensures.same c.in-Ok.ensures.seen c.in-Ok.ensures.running c.in-Ok.ensures.room c.in-Err-make_live.ensures.refused
