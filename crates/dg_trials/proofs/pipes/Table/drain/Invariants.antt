use Rattle.dg_trials.proofs.pipes.Table.drain.Given as goal

abbrev pub invariant-loop : goal.invariant-loop
invariant-loop g l = g.G.Gate.is_ready l.self.gate
