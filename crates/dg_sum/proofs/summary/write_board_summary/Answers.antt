use Rattle.std.proofs.Common.{◌++◌, ℕ, List, codes}
use Rattle.dg_sum.specs.Report.{board_summary, counts_text}
use Rattle.dg_sum.proofs.TextLemmas.{then, on_ok_then}
use Rattle.dg_sum.proofs.summary.write_board_summary.Goals as goal

pub returns : goal.returns
unfolding board_summary
returns c =
    let a : List ℕ = codes "\n\t\t=== " ++ c.args.tool.now ++ codes " Summary for " in
    let b : List ℕ = c.args.board.now in
    let d : List ℕ = codes " ===\n\n" in
    on_ok_then c.write_counts.result c.args.out.now c.extend-2.new.self c.write_counts.new.out (a ++ b ++ d) (counts_text c.args.tally.now)
    (then c.args.out.now c.extend.new.self c.extend-2.new.self (a ++ b) d c.in_ok-extend-2.ensures.ok
    (then c.args.out.now c.write_between.new.out c.extend.new.self a b c.in_ok-extend.ensures.ok c.in_ok-write_between.ensures)) c.write_counts.ensures
