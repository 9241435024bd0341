use Rattle.std.proofs.Common.{refl}
use Rattle.dg_language.specs.Variables.{do_global}
use Rattle.dg_asking.proofs.VariableLemmas.{keeps-linked}
use Rattle.dg_asking.proofs.variables.global.Goals as goal

pub returns : goal.returns
unfolding do_global
returns c = rw (c.in_ok-link_all.ensures, c.new.ensures) ((λ k. refl), keeps-linked c.args.args.now c.args.state.now)
