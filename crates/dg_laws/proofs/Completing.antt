-- What comes after a command that evaluates nothing inside and asks nothing.
use Rattle.std.specs.Prelude.{Ok, Err}
use Rattle.dg_language.specs.State.{State}
use Rattle.dg_language.specs.Completing.{Immediately, performed, completed}
use Rattle.dg_laws.specs.Grafting.{Grafted}
use Rattle.dg_laws.proofs.Steps.{completes, fail-grafted}

pub completed-grafted : (r : Immediately) (s : State) → Grafted (completed r s)
completed-grafted (Err message) s = fail-grafted message s
completed-grafted (Ok c) s = completes c.code c.value (performed c.change s)
