use Rattle.std.proofs.Common.{◌∙◌}
use Rattle.dg_words.proofs.Defaults.{start_rest}
use Rattle.dg_words.proofs.kinds.Level.in_start.Goals as goal

pub returns-in_default : goal.returns-in_default
returns-in_default c = c.in_gap.ensures ∙ start_rest c.args.self c.args.class c.args.byte c.in_default.not-Blank c.in_default.not-Newline c.in_default.not-Semicolon c.in_default.not-Hash c.in_default.not-Backslash
