use Rattle.dg_live.proofs.Going.{Going}
use Rattle.dg_live.proofs.run.run_live_with.Given as goal

abbrev pub invariant-turns : goal.invariant-turns
invariant-turns g l =
    record {
      going : Going g.G.Gate.step g.A.Asker.step g.G.Gate.count l.fn.test l.fn.gate l.fn.asker l.job l.gate l.asker;
      ready : g.G.Gate.is_ready l.gate;
    }
