use Rattle.std.proofs.Common.{arith}
use Rattle.dg_sum.specs.Report.{lines_on, script_text}
use Rattle.dg_sum.proofs.LengthLemmas.{test_short}
use Rattle.dg_sum.proofs.TallyLemmas.{next_fits, next_tally, next_text}
use Rattle.dg_sum.proofs.report.write_scripts.Goals as goal

pub plus-total-requires : goal.plus-total-requires
plus-total-requires c =
    next_fits (lines_on c.args.board.now) (script_text c.args.board.now) (test_short c.args.board.now) c.args.judged.now c.loop-one.one-index c.one-item.result _ _
    c.args.out.now c.loop-one.out _ c.loop-one.invariant.text c.in_ok-more.ensures.text (omega (arith, c.len-written.ensures)) c.loop-one.invariant.tally c.in_ok-more.ensures.tally

pub loop-one-preserved : goal.loop-one-preserved
loop-one-preserved c = record {
  text = next_text (script_text c.args.board.now) c.args.judged.now c.loop-one.one-index c.one-item.result c.args.out.now _ _ c.loop-one-test.true c.one-item.is c.loop-one.invariant.text c.in_ok-more.ensures.text;
  tally = next_tally (lines_on c.args.board.now) c.args.judged.now c.loop-one.one-index c.one-item.result _ _ _ c.loop-one-test.true c.one-item.is c.loop-one.invariant.tally c.in_ok-more.ensures.tally c.plus-total.ensures;
}
