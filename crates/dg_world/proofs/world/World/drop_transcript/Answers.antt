use Rattle.dg_world.proofs.WorldLemmas.{dropped_is_world}
use Rattle.dg_world.proofs.world.World.drop_transcript.Goals as goal

pub invariant_of-self-2 : goal.invariant_of-self-2
invariant_of-self-2 c =
    dropped_is_world (record { files = c.self.inside.files.entries; selection = c.self.inside.selection; transcripts = c.self.inside.transcripts.entries; book = c.self.inside.book }) _ _ c.self.invariant c.remove.ensures.entries
