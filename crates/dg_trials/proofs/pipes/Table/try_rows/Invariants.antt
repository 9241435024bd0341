use Rattle.dg_trials.proofs.pipes.Table.try_rows.Given as goal

abbrev pub invariant-loop-row : goal.invariant-loop-row
invariant-loop-row g l = g.G.Gate.is_ready l.self.gate
