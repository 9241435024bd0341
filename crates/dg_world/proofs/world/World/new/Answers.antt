use Rattle.dg_world.proofs.WorldLemmas.{new_is_world}
use Rattle.dg_world.proofs.world.World.new.Goals as goal

pub invariant_of-result : goal.invariant_of-result
invariant_of-result c = new_is_world _ _ _ _ c.new.ensures.empty c.in_ok-of_new_world.ensures c.new-2.ensures.empty
