use Rattle.dg_world.proofs.WorldLemmas.{removed_is_world}
use Rattle.dg_world.proofs.world.World.remove_file.Goals as goal

pub invariant_of-self-2 : goal.invariant_of-self-2
invariant_of-self-2 c =
    removed_is_world (record { files = c.self.inside.files.entries; selection = c.self.inside.selection; transcripts = c.self.inside.transcripts.entries; book = c.self.inside.book }) _ _ c.self.invariant c.remove.ensures.entries
