use Rattle.std.proofs.Common.{◌++◌, ◌∙◌, ap, ℕ, List, [], codes, length, nat_le}
use Rattle.std.specs.Prelude.{if◌then◌else◌}
use Rattle.std.specs.List.{flat_map}
use Rattle.dg_sum.specs.Report.{board_text, board_summary, script_text, own_summary}
use Rattle.dg_sum.proofs.TextLemmas.{then}
use Rattle.dg_sum.proofs.report.write_board.Goals as goal

pub returns-clause-text : goal.returns-clause-text
unfolding board_text own_summary
returns-clause-text c =
    let s = c.args.selection.now in
    let judged = c.args.judged.now in
    let board = c.args.board.now in
    let a : List ℕ = codes "\nRunning target " ++ board ++ codes "\n" in
    let b : List ℕ = flat_map (script_text board) judged in
    let own = c.in_ok-write_own_summary.ensures
    ∙ ap (λ t. c.write_scripts.new.out ++ (if nat_le 2 (length s.boards) then board_summary s.tool board t else [])) c.in_ok-tally.ensures.tally in
    (then) c.args.out.now c.write_scripts.new.out c.write_own_summary.new.out (a ++ b) (own_summary s judged board) own
    ((then) c.args.out.now c.write_between.new.out c.write_scripts.new.out a b c.in_ok-tally.ensures.text (c.in_ok-write_between.ensures ∙ ap (λ t. c.args.out.now ++ (codes "\nRunning target " ++ t ++ codes "\n")) c.as_slice.ensures))
