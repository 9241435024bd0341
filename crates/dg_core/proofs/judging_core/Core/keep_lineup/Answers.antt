use Rattle.dg_core.specs.Core.{core_of}
use Rattle.dg_core.proofs.LineupLemmas.{closed-currents}
use Rattle.dg_core.proofs.judging_core.Core.keep_lineup.Goals as goal

pub invariant_of-self : goal.invariant_of-self
invariant_of-self c =
    closed-currents (core_of c.self.inside.kept c.self.inside.evaluations) c.args.self.now c.args.lineup c.closed.result c.self.view_is c.requires.held c.requires.lineup c.closed.ensures
