use Rattle.std.proofs.Common.{◌∙◌}
use Rattle.dg_words.proofs.Defaults.{gap_rest}
use Rattle.dg_words.proofs.kinds.Level.in_gap.Goals as goal

pub returns-in_default : goal.returns-in_default
returns-in_default c = c.in_bare.ensures ∙ gap_rest c.args.self c.args.class c.args.byte c.in_default.not-Blank c.in_default.not-Newline c.in_default.not-Semicolon c.in_default.not-Quote c.in_default.not-Open c.in_default.not-Backslash
