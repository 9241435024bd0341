use Rattle.std.proofs.Common.{◌≡◌}
use Rattle.dg_core.specs.Asking.{IsTold}
use Rattle.dg_core.specs.Grown.{IsGrown}
use Rattle.dg_core.specs.Turning.{AsksInTurn}
use Rattle.dg_core.specs.Turns.{turns_left}
use Rattle.dg_core.proofs.evaluate.evaluate.Given as goal

abbrev pub invariant-turns : goal.invariant-turns
invariant-turns l =
    record {
      told : IsTold l.kept.world l.test l.job;
      grown : IsGrown l.fn.kept.world l.kept.world;
      shelf : l.kept.shelf ≡ l.fn.kept.shelf;
      asked : AsksInTurn l.fn.kept l.job.reads l.kept;
    }

abbrev pub decreases-turns : goal.decreases-turns
decreases-turns l = turns_left l.kept.world l.test l.job.reads
