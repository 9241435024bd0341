-- What comes after a command that evaluates nothing inside and asks nothing.
use Rattle.std.specs.Prelude.{Ok, Err}
use Rattle.dg_language.specs.declared.completion.Change.{Change}
use Rattle.dg_language.specs.declared.completion.Change.TheVariants.{Nothing, Calls, Sets, Unsets, Defines}
use Rattle.dg_language.specs.State.{State}
use Rattle.dg_language.specs.Completing.{Immediately, performed, completed}
use Rattle.dg_living.proofs.Holding.{Same}
use Rattle.dg_living.proofs.Changes.{stays, with_call-same, with_setting-same, without_setting-same, defined-same}
use Rattle.dg_living.proofs.Steps.{Lives, along, completes, fail-lives}

performed-same : (e : Change) (s : State) → Same s (performed e s)
performed-same Nothing s = stays s
performed-same (Calls c) s = with_call-same c s
performed-same (Sets key value) s = with_setting-same key value s
performed-same (Unsets key) s = without_setting-same key s
performed-same (Defines name p) s = defined-same name p s

pub completed-lives : (r : Immediately) (s : State) → Lives s (completed r s)
completed-lives (Err message) s = fail-lives message s
completed-lives (Ok c) s = along (performed-same c.change s) (completes c.code c.value (performed c.change s))
