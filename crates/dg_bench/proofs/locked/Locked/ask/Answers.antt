use Rattle.std.proofs.Common.{◌≡◌, ap, sym, ◌∙◌, subst}
use Rattle.std.specs.Prelude.{None}
use Rattle.std.proofs.lemmas.Result.{IfOk-weaker, IfErr-weaker}
use Rattle.dg_world.specs.World.{look}
use Rattle.dg_bench.specs.declared.call.Call.TheVariants.{Ask as asked}
use Rattle.dg_bench.specs.Seen.{Kept}
use Rattle.dg_bench.specs.Refusals.{Refuses, never}
use Rattle.dg_bench.proofs.Making.{asked_first, never_full, refused_later}
use Rattle.dg_bench.proofs.locked.Locked.ask.Goals as goal

pub returns-in-Err-clause-refused : goal.returns-in-Err-clause-refused
returns-in-Err-clause-refused g c = c.in-Err.ensures.refused c.args.cells.now.limit

pub returns-in-Err-clause-not_full : goal.returns-in-Err-clause-not_full
returns-in-Err-clause-not_full g c some running = never_full c.args.self.now c.admit.new.self c.args.pass c.in-Err.refused.0 c.in-Err.refused.1 c.in-Err.ensures.refused c.admit.ensures.same running

pub returns-in-Ok-None-clause-ok : goal.returns-in-Ok-None-clause-ok
returns-in-Ok-None-clause-ok g c =
    let nothing : c.in-Ok-None.field-0 ≡ None = cc (c.in-Ok-None.is, c.in-Ok-None.field-0-is) in
    let none : look c.args.self.now.core.world c.args.question.now ≡ None =
    ap (λ (k : Kept). look k.core.world c.args.question.now) (sym c.admit.ensures.same) ∙ sym c.in-Ok-None.ensures ∙ nothing in
    IfOk-weaker c.ask_first.result _ _
    (λ r h. asked_first c.args.cells.now.limit c.args.self.now c.admit.new.self c.ask_first.new.self c.args.pass c.in-Ok.pass r.0 r.1 c.args.question.now r.2 (look c.args.self.now.core.world c.args.question.now) (asked c.args.question.now r.2) c.admit.ensures.same c.in-Ok.ensures.seen none h)
    c.ask_first.ensures.ok

pub returns-in-Ok-None-clause-refused : goal.returns-in-Ok-None-clause-refused
returns-in-Ok-None-clause-refused g c =
    IfErr-weaker c.ask_first.result _ _
    (λ r h. refused_later c.args.cells.now.limit c.args.self.now c.ask_first.new.self c.args.pass c.in-Ok.pass r.0 r.1 c.in-Ok.ensures.seen
    (subst (λ (k : Kept). Refuses never c.args.cells.now.limit k c.ask_first.new.self c.in-Ok.pass r.0 r.1) c.admit.ensures.same h))
    c.ask_first.ensures.refused
