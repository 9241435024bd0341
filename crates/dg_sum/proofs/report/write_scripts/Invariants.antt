use Rattle.std.proofs.Common.{◌≡◌, ◌++◌, take}
use Rattle.std.specs.List.{flat_map}
use Rattle.dg_results.specs.Tally.{tally_of}
use Rattle.dg_sum.specs.Report.{lines_on, script_text}
use Rattle.dg_sum.proofs.report.write_scripts.Given as goal

abbrev pub invariant-loop-one : goal.invariant-loop-one
invariant-loop-one l =
    record {
      text : l.out ≡ l.initial.out ++ flat_map (script_text l.board) (take l.one-index l.judged);
      tally : l.total ≡ tally_of (flat_map (lines_on l.board) (take l.one-index l.judged));
    }
