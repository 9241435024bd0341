use Rattle.dg_world.proofs.WorldLemmas.{book_is_world}
use Rattle.dg_world.proofs.world.World.ask.Goals as goal

pub invariant_of-self-in-Pattern : goal.invariant_of-self-in-Pattern
invariant_of-self-in-Pattern c =
    book_is_world (record { files = c.self.inside.files.entries; selection = c.self.inside.selection; transcripts = c.self.inside.transcripts.entries; book = c.self.inside.book }) _ c.self.invariant
