use Rattle.std.proofs.Common.{◌≡◌, ◌≤◌, false, length, arith, sym, subst}
use Rattle.std.proofs.lemmas.Grind.{common_steps}
use Rattle.dg_world.specs.World.{WorldView, lacks_room}
use Rattle.dg_world.proofs.WorldLemmas.{room_for, transcripts_are_world, within}
use Rattle.dg_world.proofs.world.World.insert_transcript.Goals as goal

pub invariant_of-self-2 : goal.invariant_of-self-2
invariant_of-self-2 c =
    let w : WorldView = record { files = c.self.inside.files.entries; selection = c.self.inside.selection; transcripts = c.self.inside.transcripts.entries; book = c.self.inside.book } in
    let few : length w.transcripts ≤ 65536 = (within w c.self.invariant).few_transcripts in
    let room = room_for w c.args.test (subst (λ v. lacks_room v c.args.test ≡ false) (sym c.self.view_is) c.requires) in
    transcripts_are_world w _ c.self.invariant (grind (arith, common_steps, few, room))
