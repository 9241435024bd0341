use Rattle.std.proofs.Common.{◌≤◌, length, arith, rules}
use Rattle.std.proofs.lemmas.Grind.{common_steps}
use Rattle.dg_world.specs.World.{WorldView}
use Rattle.dg_world.proofs.WorldLemmas.{put_is_world, within}
use Rattle.dg_world.proofs.world.World.put_file.Goals as goal

pub invariant_of-self-2 : goal.invariant_of-self-2
invariant_of-self-2 c =
    let w : WorldView = record { files = c.self.inside.files.entries; selection = c.self.inside.selection; transcripts = c.self.inside.transcripts.entries; book = c.self.inside.book } in
    let few : length w.files ≤ 4096 = (within w c.self.invariant).few_files in
    put_is_world w c.args.name c.args.bytes _ c.self.invariant (search rules) (omega arith) (search rules) (grind (arith, common_steps, few))
