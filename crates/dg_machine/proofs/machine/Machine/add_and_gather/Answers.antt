use Rattle.std.proofs.Common.{◌+◌, ◌≤◌, length, refl, arith}
use Rattle.dg_language.proofs.TouchLemmas.{within-short}
use Rattle.dg_machine.proofs.ResultLemmas.{Comes-along-ok, Goes-comes-ok}
use Rattle.dg_machine.proofs.machine.Machine.add_and_gather.Goals as goal

pub returns-then-not-has_room : goal.returns-then-not-has_room
returns-then-not-has_room c = Goes-comes-ok _ _ _ _ _ _ _ c.add_value.ensures refl (omega arith)

pub returns : goal.returns
returns c =
    let short : length c.args.making.text + length c.args.value ≤ 1048576 = rw c.if-not-has_room.false at c.has_room.ensures.short in
    let went = rw c.in_ok-add_text.ensures at c.gather.ensures in
    Comes-along-ok _ _ _ _ _ _ _ went (within-short _ _ _ short) (omega arith)
