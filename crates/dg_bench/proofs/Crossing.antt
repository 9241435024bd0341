-- What may go to other threads: a bench that is shared, and what a caller has.
use denote.Param.Send.{IsSend, IsSync, sendable}
use denote.RattleType.{RattleType}
use denote.Ref.{NamedLft}
use Rattle.std.proofs.Crossing.{crosses}
use Rattle.once_cell.proofs.race.once_box.OnceBox.TheSendSync.{the_send as cell_send, the_sync as cell_sync}
use Rattle.once_cell.specs.contracts.race.once_box.OnceBox.{the_row as cell_row}
use Rattle.dg_bench.proofs.call.Call.TheSendSync as call
use Rattle.dg_world.proofs.test_id.TestId.TheSendSync as test
use Rattle.dg_bench.proofs.locked.Locked.TheSendSync as locked
use Rattle.dg_bench.proofs.pass.Pass.TheSendSync as pass
use Rattle.dg_bench.proofs.work.Work.TheSendSync as work
use Rattle.dg_bench.specs.declared.room.Room.{Ghosts}
use Rattle.dg_bench.specs.contracts.bench.Bench.{the_row as bench_row}
use Rattle.dg_bench.specs.contracts.cells.Block.{the_row as block_row}
use Rattle.dg_bench.specs.contracts.pass.Pass.{the_row as pass_row}
use Rattle.dg_bench.specs.contracts.place.Place.{the_row as place_row}
use Rattle.dg_bench.specs.contracts.workers.Crew.{the_row as crew_row}

pub place_send : IsSend place_row
place_send = search (crosses, sendable, call.the_field_send) depth 20

pub place_sync : IsSync place_row
place_sync = search (crosses, sendable, call.the_field_sync) depth 20

places_sync : IsSync (cell_row place_row)
places_sync = cell_sync place_row place_send place_sync

places_send : IsSend (cell_row place_row)
places_send = cell_send place_row place_send

block_send : IsSend block_row
block_send = search (crosses, sendable, places_send) depth 20

block_sync : IsSync block_row
block_sync = search (crosses, sendable, places_sync) depth 20

pub cells_sync : IsSync (cell_row block_row)
cells_sync = cell_sync block_row block_send block_sync

pub bench_sync : (B : RattleType) (r : Ghosts B.Denot) → IsSend B → IsSync (bench_row B r)
bench_sync B r s = search (crosses, sendable, cells_sync, locked.the_send) depth 20

-- what workers share may be shared, where the maker and the handle may be
pub crew_sync : (κ : NamedLft) (B M R : RattleType) (r : Ghosts B.Denot) → IsSend B → IsSync M → IsSync R → IsSync (crew_row κ B M R r)
crew_sync κ B M R r b m h = search (crosses, sendable, bench_sync, test.the_sync, work.the_field_sync) depth 20

pub pass_send : (B : RattleType) (r : Ghosts B.Denot) → IsSend B → IsSend (pass_row B r)
pass_send B r s = search (crosses, sendable, pass.the_send) depth 20
