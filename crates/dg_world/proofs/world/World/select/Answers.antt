use Rattle.std.proofs.Common.{rules}
use Rattle.dg_world.proofs.WorldLemmas.{selected_is_world}
use Rattle.dg_world.proofs.world.World.select.Goals as goal

pub invariant_of-self : goal.invariant_of-self
invariant_of-self c =
    selected_is_world (record { files = c.self.inside.files.entries; selection = c.self.inside.selection; transcripts = c.self.inside.transcripts.entries; book = c.self.inside.book }) _ c.self.invariant (search rules)
