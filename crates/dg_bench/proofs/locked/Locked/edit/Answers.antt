use Rattle.std.proofs.Common.{◌≡◌, false, sym, subst}
use Rattle.std.specs.Prelude.{Err}
use Rattle.dg_core.specs.Core.{new_core, edited_core}
use Rattle.dg_bench.specs.declared.call.Call.TheVariants.{Edit as edited}
use Rattle.dg_bench.specs.History.{Makes}
use Rattle.dg_bench.specs.Seen.{Kept}
use Rattle.dg_bench.proofs.Making.{entered_later, refused_begun}
use Rattle.dg_bench.proofs.locked.Locked.edit.Goals as goal

pub make_edit-requires-clause-running : goal.make_edit-requires-clause-running
make_edit-requires-clause-running g c =
    subst (λ (k : Kept). (k.stopped ≡ false) × Makes new_core k.calls k.core) (sym c.begin.ensures.same) c.in-Ok.ensures.running

pub returns-in-Ok-make_edit-clause-ok : goal.returns-in-Ok-make_edit-clause-ok
returns-in-Ok-make_edit-clause-ok g c =
    entered_later c.args.cells.now.limit c.args.self.now c.begin.new.self c.make_edit.new.self c.args.pass c.in-Ok.pass c.in-Ok-make_edit.made.0 c.in-Ok-make_edit.made.1 (edited c.args.edit) c.begin.ensures.same
    c.in-Ok.ensures.seen c.in-Ok-make_edit.ensures.ok

pub returns-in-Err-make_edit-clause-refused : goal.returns-in-Err-make_edit-clause-refused
returns-in-Err-make_edit-clause-refused g c =
    refused_begun (λ core why. edited_core core c.args.edit ≡ Err why) c.args.cells.now.limit c.args.self.now c.begin.new.self c.make_edit.new.self c.args.pass c.in-Ok.pass c.in-Err-make_edit.refusal
    c.begin.ensures.same c.in-Ok.ensures.seen c.in-Ok.ensures.running c.in-Ok.ensures.room c.in-Err-make_edit.ensures.refused
