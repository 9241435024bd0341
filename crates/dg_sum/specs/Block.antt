-- The block of a judged test, made once for all reports that have it.
use Rattle.dg_results.specs.Tally.{tally_of}
use Rattle.dg_sum.specs.Judged.{Judged}
use Rattle.dg_sum.specs.Lines.{test_text, some_unexpected}
use Rattle.dg_sum.specs.declared.block.Block.{Block}

-- its text, the counts of its lines, and whether one of them is unexpected
abbrev pub block_of : Judged → Block
block_of j = record { text = test_text j; tally = tally_of j.verdict; is_unexpected = some_unexpected j.verdict }
