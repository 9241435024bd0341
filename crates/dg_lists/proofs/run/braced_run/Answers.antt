use Rattle.std.proofs.Common.{◌≡◌, ◌-◌, arith, length, subst, sym, ◌∙◌}
use Rattle.dg_lists.specs.Braces.{IsBracedRun}
use Rattle.dg_lists.proofs.Runs.{continues_plain, one_more}
use Rattle.dg_lists.proofs.run.braced_run.Goals as goal
use Rattle.dg_lists.proofs.run.braced_run.Goals.{in-Open, in-Close-2, in_default}

pub loop-place-preserved : goal.loop-place-preserved
loop-place-preserved c =
    let text = c.args.text.now in
    let from = c.args.from in
    let depth = c.args.depth in
    let i = c.loop-place.place in
    let m = c.loop-place.inside in
    let run = c.loop-place.invariant.run in
    let onward = c.loop-place.invariant.onward in
    let deep = c.loop-place.invariant.deep in
    elim c.match-class_of.branch [
      | in-Open w ↦ record {
        run = one_more text from depth i m _ _ onward run (sym w.in-Open.is ∙ c.class_of.ensures) w.inside-is;
        onward = omega arith;
        deep = omega arith;
      }
      | in-Close-2 w ↦ record {
        run = one_more text from depth i m _ _ onward run (sym w.in-Close-2.is ∙ c.class_of.ensures) (omega (arith, w.inside-is, w.if-inside-eq0.false));
        onward = omega arith;
        deep = omega arith;
      }
      | in_default w ↦ record {
        run = one_more text from depth i m _ c.class_of.result onward run c.class_of.ensures (continues_plain c.class_of.result m _ w.inside-is w.in_default.not-Open w.in_default.not-Close w.in_default.not-Backslash);
        onward = omega arith;
        deep = omega arith;
      }
    ]

pub returns-clause-run : goal.returns-clause-run
returns-clause-run c =
    let place : c.loop-place.place ≡ length c.args.text.now = omega (arith, c.loop-place-test.false, c.requires.within, c.loop-place.auto.place-end) in
    subst (λ i. IsBracedRun c.args.text.now c.args.from c.args.depth (i - c.args.from) c.loop-place.inside) place c.loop-place.invariant.run
