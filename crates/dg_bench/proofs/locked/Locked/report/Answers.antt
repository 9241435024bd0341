use Rattle.std.proofs.Common.{◌≡◌, false, sym, subst}
use Rattle.dg_core.specs.Core.{new_core}
use Rattle.dg_bench.specs.declared.call.Call.TheVariants.{Report as reported}
use Rattle.dg_bench.specs.History.{Makes}
use Rattle.dg_bench.specs.Seen.{Kept}
use Rattle.dg_bench.specs.Refusals.{never}
use Rattle.dg_bench.proofs.Making.{entered_later, refused_begun}
use Rattle.dg_bench.proofs.locked.Locked.report.Goals as goal

pub make_report-requires-clause-running : goal.make_report-requires-clause-running
make_report-requires-clause-running g c =
    subst (λ (k : Kept). (k.stopped ≡ false) × Makes new_core k.calls k.core) (sym c.begin.ensures.same) c.in-Ok.ensures.running

pub returns-in-Ok-make_report-clause-ok : goal.returns-in-Ok-make_report-clause-ok
returns-in-Ok-make_report-clause-ok g c =
    entered_later c.args.cells.now.limit c.args.self.now c.begin.new.self c.make_report.new.self c.args.pass c.in-Ok.pass c.in-Ok-make_report.made.0 c.in-Ok-make_report.made.1 (reported c.in-Ok-make_report.made.2) c.begin.ensures.same
    c.in-Ok.ensures.seen c.in-Ok-make_report.ensures.ok

pub returns-in-Err-make_report-clause-refused : goal.returns-in-Err-make_report-clause-refused
returns-in-Err-make_report-clause-refused g c =
    refused_begun never c.args.cells.now.limit c.args.self.now c.begin.new.self c.make_report.new.self c.args.pass c.in-Ok.pass c.in-Err-make_report.refusal
    c.begin.ensures.same c.in-Ok.ensures.seen c.in-Ok.ensures.running c.in-Ok.ensures.room c.in-Err-make_report.ensures.refused
