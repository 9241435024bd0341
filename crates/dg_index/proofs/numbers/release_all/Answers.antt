use Rattle.std.proofs.Common.{arith}
use Rattle.dg_index.proofs.NumbersLemmas.{given-more}
use Rattle.dg_index.proofs.numbers.release_all.Goals as goal

pub loop-read-preserved : goal.loop-read-preserved
loop-read-preserved c =
    let i = c.loop-read.read-index in
    let reads = c.args.reads.now in
    record {
      fewer = λ t. omega (arith, c.release.ensures.fewer t, c.loop-read.invariant.fewer t, given-more t reads i c.read-item.result c.loop-read-test.true c.read-item.is);
      stays = λ t n h left. c.release.ensures.stays t n (c.loop-read.invariant.stays t n h (omega (arith, c.release.ensures.fewer t, left))) left;
    }
