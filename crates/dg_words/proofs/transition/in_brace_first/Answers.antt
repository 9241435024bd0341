use Rattle.std.proofs.Common.{◌∙◌}
use Rattle.dg_words.proofs.Defaults.{first_rest}
use Rattle.dg_words.proofs.transition.in_brace_first.Goals as goal

pub returns-in_default : goal.returns-in_default
returns-in_default c = c.in_braced.ensures ∙ first_rest c.args.class c.args.byte c.in_default.not-Star
