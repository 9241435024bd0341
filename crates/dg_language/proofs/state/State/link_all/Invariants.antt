use Rattle.std.proofs.Common.{◌≡◌, drop}
use Rattle.dg_language.specs.Variables.{all_linked}
use Rattle.dg_language.proofs.state.State.link_all.Given as goal

abbrev pub invariant-loop-name : goal.invariant-loop-name
invariant-loop-name l = all_linked (drop l.name-index l.names) l.self ≡ all_linked l.fn.names l.fn.self
