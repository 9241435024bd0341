use Rattle.std.proofs.Common.{sym}
use Rattle.std.specs.Prelude.{codes}
use Rattle.std.proofs.lemmas.Result.{IfOk-weaker}
use Rattle.dg_language.specs.Evaluation.{fail}
use Rattle.dg_asking.specs.declared.attempt.AttemptEnd.TheVariants.{Fails}
use Rattle.dg_asking.proofs.AttemptLemmas.{attempts-as, ends-as, miscounts, said}
use Rattle.dg_asking.proofs.VariableLemmas.{info-none, info-unknown, info-miscounted, info-tells}
use Rattle.dg_asking.proofs.variables.info.Goals as goal

pub returns-in_default : goal.returns-in_default
returns-in_default c = miscounts c.miscounted.result _ _ _ c.miscounted.ensures (info-none _ c.in_default.ensures)

pub returns-then-ne : goal.returns-then-ne
returns-then-ne c =
    let other = rw (c.as_slice.ensures, c.as_slice-2.ensures) at c.if-ne.ensures in
    ends-as _ (fail (codes "unknown subcommand")) c.args.state.now c.args.state.now (Fails c.in_ok-message.message)
    (said (codes "unknown subcommand") c.in_ok-message.message c.args.state.now c.in_ok-message.ensures) (info-unknown _ _ _ c.in-Some.ensures other)

pub returns-in_default-only : goal.returns-in_default-only
returns-in_default-only c =
    let same = rw (c.as_slice.ensures, c.as_slice-2.ensures) at c.if-ne.ensures in
    miscounts c.miscounted-in_default-only.result _ _ _ c.miscounted-in_default-only.ensures
    (info-miscounted _ _ _ c.in-Some.ensures same (sym c.in_default-only.ensures))

pub returns : goal.returns
returns c =
    let same = rw (c.as_slice.ensures, c.as_slice-2.ensures) at c.if-ne.ensures in
    let went = rw c.as_slice-3.ensures at c.exists.ensures in
    IfOk-weaker c.exists.result _ _ (λ a h. attempts-as _ _ _ _ a h (info-tells _ _ _ c.in-Some.ensures _ same (sym c.in-Some-only.ensures))) went
