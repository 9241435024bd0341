use Rattle.dg_bench.proofs.locked.Locked.show.Goals as goal

pub whole-requires-clause-all : goal.whole-requires-clause-all
whole-requires-clause-all g c = rw c.agree.ensures.same c.self.invariant.0

pub invariant_of-self : goal.invariant_of-self
invariant_of-self g c = rw (c.whole.ensures.same, c.agree.ensures.same) c.self.invariant
