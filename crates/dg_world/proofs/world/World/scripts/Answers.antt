use Rattle.dg_world.proofs.WorldLemmas.{all_scripts}
use Rattle.dg_world.proofs.world.World.scripts.Goals as goal

pub returns : goal.returns
returns c =
    all_scripts (record { files = c.self.inside.files.entries; selection = c.self.inside.selection; transcripts = c.self.inside.transcripts.entries; book = c.self.inside.book }) _ c.self.view_is _ _ c.loop-name.invariant c.in-None.ensures.steps.0
