use Rattle.std.proofs.Common.{◌++◌, ℕ, List, codes}
use Rattle.dg_sum.specs.Report.{count_text}
use Rattle.dg_sum.proofs.TextLemmas.{then, on_ok_then}
use Rattle.dg_sum.proofs.summary.write_plain_counts.Goals as goal

pub returns : goal.returns
returns c =
    let a : List ℕ = count_text (codes "expected passes") c.args.tally.now.passes in
    let b : List ℕ = count_text (codes "unexpected failures") c.args.tally.now.failures in
    on_ok_then c.write_count-3.result c.args.out.now c.write_count-2.new.out c.write_count-3.new.out (a ++ b) (count_text (codes "unexpected successes") c.args.tally.now.unexpected_successes)
    (then c.args.out.now c.write_count.new.out c.write_count-2.new.out a b c.in_ok-write_count-2.ensures c.in_ok-write_count.ensures) c.write_count-3.ensures
