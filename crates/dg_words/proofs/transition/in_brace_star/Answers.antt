use Rattle.std.proofs.Common.{◌∙◌}
use Rattle.dg_words.proofs.Defaults.{brace_star_rest}
use Rattle.dg_words.proofs.transition.in_brace_star.Goals as goal

pub returns-in_default : goal.returns-in_default
returns-in_default c = c.in_braced.ensures ∙ brace_star_rest c.args.class c.args.byte c.in_default.not-Close
