use Rattle.dg_index.proofs.IndexLemmas.{names-more, names-next}
use Rattle.std.proofs.Common.{take}
use Rattle.dg_index.proofs.index.Index.name_reads.Goals as goal

pub loop-read-preserved : goal.loop-read-preserved
loop-read-preserved c =
    let i = c.loop-read.read-index in
    let reads = c.args.reads.now in
    record {
      named = names-next c.name_next.new.self c.args.place reads i c.read-item.result c.loop-read-test.true c.read-item.is
          (names-more c.loop-read.self c.name_next.new.self c.args.place (take i reads) c.name_next.ensures.stays c.loop-read.invariant.named) c.in_ok-name_next.ensures.named;
      told = c.in_ok-name_next.ensures.last;
      stays = λ t p h. c.name_next.ensures.stays t p (c.loop-read.invariant.stays t p h);
    }
