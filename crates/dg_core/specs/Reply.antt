-- What a report answers.
use Rattle.std.specs.Prelude.{◌≡◌, ◌≢◌, [], Some}
use Rattle.dg_core.specs.declared.reply.Reply.{Reply}
use Rattle.dg_core.specs.declared.reply.Reply.TheVariants.{Sum, Pending}
use Rattle.dg_core.specs.Core.{CoreView, pending}
use Rattle.dg_core.specs.Scratch.{scratch}

-- the report of the world as it stands, where no test is pending; else the pending tests
abbrev pub Replies : CoreView → Reply → Type 0
Replies c (Sum bytes status) = (pending c ≡ []) × (scratch c.world ≡ Some (bytes, status))
Replies c (Pending tests) = (tests ≡ pending c) × (pending c ≢ [])
