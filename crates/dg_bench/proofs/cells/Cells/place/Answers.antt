use Rattle.dg_bench.proofs.CellLemmas.{same_note}
use Rattle.dg_bench.proofs.cells.Cells.place.Goals as goal

pub returns-clause-same : goal.returns-clause-same
returns-clause-same c =
    let sees = c.requires.known.1 in
    same_note c.get_as.new.note c.args.note.now.block c.get_as-in-Some.new.note c.args.note.now.place _ _ _ _ c.in-Some.ensures.cell c.in-Some-get_as.ensures.cell
    sees.block_holds c.in-Some.ensures.value.0 c.in-Some.ensures.value.1 sees.holds c.in-Some-get_as.ensures.value.0 c.in-Some-get_as.ensures.value.1
