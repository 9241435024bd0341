use Rattle.std.proofs.Common.{sym, arith}
use Rattle.dg_glob.proofs.ItemLemmas.{after_item_shorter}
use Rattle.dg_glob.proofs.rows.cell.Goals as goal

pub is_marked-requires-in-Some-after_item : goal.is_marked-requires-in-Some-after_item
is_marked-requires-in-Some-after_item c =
    let h = after_item_shorter c.args.pattern.now c.in-Some-after_item.rest.now _ (sym c.in-Some-after_item.ensures) in
    let room = c.requires in
    omega arith
