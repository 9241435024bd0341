use Rattle.std.proofs.Common.{◌∙◌, ap}
use Rattle.dg_lists.specs.Transitions.{behind_effect}
use Rattle.dg_lists.specs.declared.kinds.Effect.TheVariants.{Expand}
use Rattle.dg_words.proofs.Defaults.{star_rest}
use Rattle.dg_words.proofs.kinds.Level.behind_star.Goals as goal

pub returns-in_default : goal.returns-in_default
returns-in_default c = (c.behind.ensures ∙ ap (λ t. behind_effect Expand t) c.in_bare.ensures) ∙ star_rest c.args.self c.args.class c.args.byte c.in_default.not-Blank c.in_default.not-Newline c.in_default.not-Semicolon c.in_default.not-RightBracket c.in_default.not-Backslash c.in_default.not-Quote c.in_default.not-Open
