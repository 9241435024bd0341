use Rattle.std.proofs.Common.{◌≡◌, ◌++◌, drop}
use Rattle.dg_language.specs.Expressions.{behind_spaces}
use Rattle.dg_forms.proofs.expression.with_spaces.Given as goal

abbrev pub invariant-loop-word : goal.invariant-loop-word
invariant-loop-word l = l.text ++ behind_spaces (drop l.word-index l.others) ≡ l.fn.first ++ behind_spaces l.fn.others
