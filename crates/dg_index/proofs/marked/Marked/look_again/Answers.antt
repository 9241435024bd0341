use Rattle.std.proofs.Common.{◌∙◌, ap, length}
use Rattle.dg_index.proofs.MarksLemmas.{looked_again-length}
use Rattle.dg_index.proofs.marked.Marked.look_again.Goals as goal

pub invariant_of-self : goal.invariant_of-self
invariant_of-self c =
    (ap length c.look_again.ensures.marks ∙ looked_again-length c.args.world.now c.args.topic.now _ c.self.inside.marks ∙ c.self.invariant.0, c.self.invariant.1)
