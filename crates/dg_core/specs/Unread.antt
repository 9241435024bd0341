-- Changes of the world that no kept record read.
use Rattle.std.specs.Prelude.{◌≡◌, All, IfSome, List}
use Rattle.dg_world.specs.World.{WorldView, look, selected}
use Rattle.dg_records.specs.Truth.{RecordView}
use Rattle.dg_records.specs.Shelf.{kept}
use Rattle.dg_core.specs.Core.{CoreView, pending}

-- each question that a record read has the answer that it had
abbrev pub IsUnreadBy : WorldView → WorldView → RecordView → Type 0
IsUnreadBy old new r = All (λ read. look new read.question ≡ look old read.question) r.reads

-- the same tests are selected, and the kept records of these read nothing that changed
pub record IsUnread (old new : WorldView) (shelf : List RecordView) : Type 0 where
  pub tests : selected new ≡ selected old
  pub answers : All (λ t. IfSome (kept shelf t) (IsUnreadBy old new)) (selected old)

-- such a change leaves the pending tests as they were
abbrev pub UnreadChangesLeaveThePending : Type 0
UnreadChangesLeaveThePending =
    (c : CoreView) (w : WorldView) → IsUnread c.world w c.shelf → pending (record c { world = w }) ≡ pending c
